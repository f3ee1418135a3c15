use Rattle.std.proofs.Common.{◌≡◌, ◌↔◌, true, List, ℕ}
use Rattle.std.proofs.lemmas.Result.{IfOk-weaker}
use Rattle.job_outcomes.specs.Jobs.{IsOutcomeOf}
use Rattle.job_outcomes.specs.Outcomes.{Outcome}
use Rattle.machine_key.specs.Codes.{outcome_code}
use Rattle.machine_key.specs.Race.{meaning}
use Rattle.machine_key.proofs.Exact.{outcomes-of}
use Rattle.state_search.specs.Entries.{HasKey}
use Rattle.state_search.specs.Races.{IsOutcome}
use Rattle.machine_race.proofs.job_race.all_outcomes.Goals as goal

pub returns-clause-all : goal.returns-clause-all
returns-clause-all g c =
    let job = c.args.job.now in
    IfOk-weaker c.explore.result
    (λ f. f.is_whole ≡ true → (o : List ℕ) → IsOutcome (meaning job) o ↔ HasKey f.outcomes o)
    (λ f. f.is_whole ≡ true → (o : Outcome) → IsOutcomeOf job o ↔ HasKey f.outcomes (outcome_code.numbers o))
    (λ f listed whole o. let of' = outcomes-of job o in let at = listed whole (outcome_code.numbers o) in (λ p. at.0 (of'.0 p), λ k. of'.1 (at.1 k)))
    c.explore.ensures.all
