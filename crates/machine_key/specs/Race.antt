-- The word machine as a race of its actors: control is actor 0, and CPU c is actor c + 1.
use Rattle.std.specs.Prelude.{ℕ, zero, suc, ◌↔◌, List, length, map}
use Rattle.ft_base.specs.declared.turn.Actor.{Actor}
use Rattle.ft_base.specs.declared.turn.Actor.TheVariants.{Control as ByControl, Cpu as ByCpu}
use Rattle.ft_base.specs.Job.{Job}
use Rattle.word_machine.specs.Machine.{World, run, start, all_end}
use Rattle.job_outcomes.specs.Jobs.{outcome_at, IsLike, IsOutcomeOf}
use Rattle.job_outcomes.specs.Outcomes.{Outcome}
use Rattle.state_search.specs.Races.{Meaning, IsOutcome}
use Rattle.machine_key.specs.Codes.{outcome_code}
use Rattle.machine_key.specs.States.{IsCode}

-- the actor of this number
abbrev pub actor_at : ℕ → Actor
actor_at zero = ByControl
actor_at (suc c) = ByCpu (record { 0 = c })

-- the state after a schedule
abbrev pub after : Job → List ℕ → World
after job s = run job (map actor_at s) (start job)

-- the race of a job
abbrev pub meaning : Job → Meaning
meaning job = record {
  actors = suc (length job.quanta);
  has_key = λ s k. IsCode job (after job s) k;
  alike = λ s t. IsLike job (after job s) (after job t);
  ended = λ s. all_end job (after job s);
  outcome = λ s. outcome_code.numbers (outcome_at job (after job s));
}

-- the outcomes of the race are the numbers of the job's
abbrev pub HasOutcomesOf : Job → Type 0
HasOutcomesOf job = (o : Outcome) → IsOutcomeOf job o ↔ IsOutcome (meaning job) (outcome_code.numbers o)
