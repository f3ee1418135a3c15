-- A CPU reads no line.
use Rattle.std.proofs.Common.{◌≡◌, ℕ, List, refl}
use Rattle.ft_base.specs.Job.{Job, Ctl, LinePlan}
use Rattle.word_machine.specs.Cpu.{Cpu, cpu_next, cpu_got}
use Rattle.word_machine_laws.specs.Led.{with_lines}

pub same_next : (job : Job) (ctls : List Ctl) (plan : LinePlan) (me : Cpu) → cpu_next (with_lines job ctls plan) me ≡ cpu_next job me
unfolding cpu_next
same_next job ctls plan me = refl

pub same_got : (job : Job) (ctls : List Ctl) (plan : LinePlan) (me : Cpu) (v : ℕ) → cpu_got (with_lines job ctls plan) me v ≡ cpu_got job me v
unfolding cpu_got
same_got job ctls plan me v = refl
