use Rattle.ft_schedule.specs.Bulk.{cpu_part}
use Rattle.ft_schedule.proofs.Parts.{text-none, text-more, state-none, state-more}
use Rattle.ft_schedule.proofs.bulk.push_cpus.Goals as goal

pub loop-cpu-init : goal.loop-cpu-init
loop-cpu-init c = record { text = text-none cpu_part _ _; state = state-none cpu_part _ }

pub loop-cpu-preserved : goal.loop-cpu-preserved
loop-cpu-preserved c = record {
  text = text-more cpu_part _ _ _ _ _ _ c.loop-cpu.invariant.text c.loop-cpu.invariant.state c.in_ok-push_cpu.ensures.text;
  state = state-more cpu_part _ _ _ _ c.loop-cpu.invariant.state c.in_ok-push_cpu.ensures.state;
}
