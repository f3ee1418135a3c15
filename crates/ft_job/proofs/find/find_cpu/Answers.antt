use Rattle.ft_job.proofs.FindLaws.{cpu-here, found-later, told}
use Rattle.ft_job.proofs.find.find_cpu.Goals as goal

pub returns-then-is_some : goal.returns-then-is_some
returns-then-is_some c =
    cpu-here c.args.cpus.now c.args.task.0 c.loop-number.number c.index-cpus-number.result c.loop-number.invariant c.loop-number-test.true c.index-cpus-number.is _
    (rw c.as_slice.ensures.value at c.find_on.ensures) (told _ _ _ _ c.is_some.ensures c.if-is_some.true)

pub loop-number-preserved : goal.loop-number-preserved
loop-number-preserved c =
    found-later c.args.cpus.now c.args.task.0 c.loop-number.number c.index-cpus-number.result c.loop-number.invariant c.loop-number-test.true c.index-cpus-number.is _
    (rw c.as_slice.ensures.value at c.find_on.ensures) (told _ _ _ _ c.is_some.ensures c.if-is_some.false)
