-- All actors are at their ends in a state in which none has an operation left.
use Rattle.std.proofs.Common.{◌≡◌, ℕ, zero, suc, ◌+◌, ◌<◌, ◌≤◌, true, ◌&&◌, length, None, refl, arith}
use Rattle.ft_base.specs.Job.{Job}
use Rattle.word_machine.specs.Control.{control_next}
use Rattle.word_machine.specs.Cpu.{Cpu, cpu_next}
use Rattle.word_machine.specs.Machine.{World, all_end, cpus_end, is_end}
use Rattle.word_machine.specs.Rule.{MachineRule}
use Rattle.word_machine_laws.proofs.Stops.{control-ends, cpu-ends}

all-over : (cpus : ℕ → Cpu) (c n : ℕ) → ((d : ℕ) → c ≤ d → d < c + n → is_end (cpus d).phase ≡ true) → cpus_end cpus c n ≡ true
all-over cpus c zero over = refl
all-over cpus c (suc n) over =
    λ i. over c (omega arith) (omega arith) i && all-over cpus (suc c) n (λ d from to. over d (omega (arith, from)) (omega (arith, to))) i

pub all-ended : (job : Job) (s : World) → MachineRule job s → control_next job s.control ≡ None
    → ((c : ℕ) → c < length job.quanta → cpu_next job (s.cpus c) ≡ None) → all_end job s ≡ true
unfolding all_end
all-ended job s k control cpus =
    λ i. (control-ends job s.control).1 control i
    && all-over s.cpus 0 (length job.quanta) (λ c from to. let inside : c < length job.quanta = omega (arith, to) in (cpu-ends job s k c inside).1 (cpus c inside)) i
