-- What an actor is after the values that its operations have given, one after the other, and what it has marked by then. An actor knows of
-- the others by these values alone, so its state is a function of them, whoever stepped between.
use Rattle.std.specs.Prelude.{ℕ, ◌==◌, List, [], ◌∷◌, ◌++◌, Option, Some, None, if◌then◌else◌}
use Rattle.ft_base.specs.declared.item.Stamped.{Stamped}
use Rattle.ft_base.specs.declared.turn.Actor.{Actor}
use Rattle.ft_base.specs.declared.turn.Actor.TheVariants.{Control as ByControl, Cpu as ByCpu}
use Rattle.ft_base.specs.Job.{Job}
use Rattle.word_map.specs.Ops.{WordOp}
use Rattle.word_map.specs.Words.{Words}
use Rattle.word_machine.specs.Control.{Control, control_start, control_next, control_got}
use Rattle.word_machine.specs.Cpu.{Cpu, cpu_start, cpu_next, cpu_got}
use Rattle.word_machine.specs.Machine.{World, step, taken}
use Rattle.control_core.specs.Steps as control
use Rattle.cpu_core.specs.CpuSteps as cpu

-- ## states

-- control after these values
abbrev pub control_after : Job → Control → List ℕ → Control
control_after job s [] = s
control_after job s (v ∷ vs) = control_after job (control_got job s v) vs

-- the same from its start
abbrev pub control_fed : Job → List ℕ → Control
control_fed job vs = control_after job (control_start job) vs

-- a CPU after these values
abbrev pub cpu_after : Job → Cpu → List ℕ → Cpu
cpu_after job me [] = me
cpu_after job me (v ∷ vs) = cpu_after job (cpu_got job me v) vs

-- CPU c after them, from its start
abbrev pub cpu_fed : Job → ℕ → List ℕ → Cpu
cpu_fed job c vs = cpu_after job (cpu_start job c) vs

-- ## items

-- what control marks while it takes these values
abbrev pub control_marks : Job → Control → List ℕ → List Stamped
control_marks job s [] = []
control_marks job s (v ∷ vs) = control.marks_in (control_next job s) v ++ control_marks job (control_got job s v) vs

-- the same from its start
abbrev pub control_items : Job → List ℕ → List Stamped
control_items job vs = control_marks job (control_start job) vs

-- what a CPU marks
abbrev pub cpu_marks : Job → Cpu → List ℕ → List Stamped
cpu_marks job me [] = []
cpu_marks job me (v ∷ vs) = cpu.marks_in (cpu_next job me) v ++ cpu_marks job (cpu_got job me v) vs

-- what CPU c marks, from its start
abbrev pub cpu_items : Job → ℕ → List ℕ → List Stamped
cpu_items job c vs = cpu_marks job (cpu_start job c) vs

-- ## runs

-- what an operation gives, if there is one
abbrev pub given : Option WordOp → Words → List ℕ
given None ws = []
given (Some op) ws = taken op ws ∷ []

-- what control takes in a run of these actors
abbrev pub control_takes : Job → List Actor → World → List ℕ
control_takes job [] s = []
control_takes job (ByControl ∷ rest) s = given (control_next job s.control) s.words ++ control_takes job rest (step job ByControl s)
control_takes job (ByCpu d ∷ rest) s = control_takes job rest (step job (ByCpu d) s)

-- what CPU c takes in it
abbrev pub cpu_takes : Job → ℕ → List Actor → World → List ℕ
cpu_takes job c [] s = []
cpu_takes job c (ByControl ∷ rest) s = cpu_takes job c rest (step job ByControl s)
cpu_takes job c (ByCpu d ∷ rest) s =
    (if d.0 == c then given (cpu_next job (s.cpus c)) s.words else []) ++ cpu_takes job c rest (step job (ByCpu d) s)
