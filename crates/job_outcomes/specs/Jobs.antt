-- The outcomes of a job.
use Rattle.std.specs.Prelude.{◌≡◌, ◌<◌, true, List, length, reverse, ⊤}
use Rattle.std.specs.List.{AllByRecursion as Each}
use Rattle.ft_base.specs.declared.turn.Actor.{Actor}
use Rattle.ft_base.specs.declared.turn.Actor.TheVariants.{Control, Cpu}
use Rattle.ft_base.specs.Job.{Job}
use Rattle.word_machine.specs.Machine.{World, run, start, all_end}
use Rattle.job_outcomes.specs.Outcomes.{Outcome, outcome}

-- an actor of the job: control, or one of its CPUs
abbrev pub IsActor : Job → Actor → Type 0
IsActor job Control = ⊤
IsActor job (Cpu c) = c.0 < length job.quanta

-- the outcome of a state's history
abbrev pub outcome_at : Job → World → Outcome
outcome_at job s = outcome (length job.tasks) (reverse s.past)

-- an outcome of the job: that of a history that is at its end after some schedule, of any length
abbrev pub IsOutcomeOf : Job → Outcome → Type 0
IsOutcomeOf job o = (actors : List Actor) × Each (IsActor job) actors × (all_end job (run job actors (start job)) ≡ true) × (outcome_at job (run job actors (start job)) ≡ o)

-- states with the same words and actors, and with the same outcome so far, are so after each step: nothing else of a history counts
pub record IsLike (job : Job) (s t : World) : Type 0 where
  pub words : s.words ≡ t.words
  pub control : s.control ≡ t.control
  pub cpus : s.cpus ≡ t.cpus
  pub told : outcome_at job s ≡ outcome_at job t
