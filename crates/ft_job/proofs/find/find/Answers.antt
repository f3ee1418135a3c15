use Rattle.ft_job.proofs.FindLaws.{found-here, found-later, told}
use Rattle.ft_job.proofs.find.find.Goals as goal

pub returns-then-is_some : goal.returns-then-is_some
returns-then-is_some c =
    found-here c.args.cpus.now c.args.task.0 c.loop-cpu.cpu-index c.cpu-item.result c.loop-cpu.invariant c.loop-cpu-test.true c.cpu-item.is _
    (rw c.as_slice.ensures.value at c.find_on-found.ensures) (told _ _ _ _ c.is_some.ensures c.if-is_some.true)

pub loop-cpu-preserved : goal.loop-cpu-preserved
loop-cpu-preserved c =
    found-later c.args.cpus.now c.args.task.0 c.loop-cpu.cpu-index c.cpu-item.result c.loop-cpu.invariant c.loop-cpu-test.true c.cpu-item.is _
    (rw c.as_slice.ensures.value at c.find_on-found.ensures) (told _ _ _ _ c.is_some.ensures c.if-is_some.false)
