use Rattle.std.proofs.Common.{◌≡◌, [], Result, Ok, Err, IfOk, subst}
use Rattle.machine_key.specs.Race.{after}
use Rattle.machine_key.proofs.Exact.{after-none}
use Rattle.ft_machine.specs.Machines.{IsOf, state_of}
use Rattle.machine_race.proofs.job_race.JobRaceRace.start.Goals as goal

both : {T E : Type 0} (r : Result T E) (P Q : T → Type 0) → IfOk r P → IfOk r Q → IfOk r (λ x. P x × Q x)
both (Ok x) P Q p q = (p, q)
both (Err e) P Q p q = tt

pub returns : goal.returns
returns g c =
    let job = c.args.self.now.job.now in
    both c.start.result (λ m. IsOf job m) (λ m. state_of job m ≡ after job []) c.start.ensures.of (subst (λ w. IfOk c.start.result (λ m. state_of job m ≡ w)) (after-none job) c.start.ensures.opening)
