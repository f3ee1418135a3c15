use Rattle.std.proofs.Common.{sym, ◌∙◌}
use Rattle.word_machine.specs.Machine.{step}
use Rattle.machine_key.proofs.Exact.{after-snoc}
use Rattle.machine_race.proofs.job_race.JobRaceRace.step.Goals as goal

pub returns : goal.returns
returns g c = λ s h.
    let job = c.args.self.now.job.now in
    (c.step.ensures.of job h.0, c.step.ensures.state job h.0 ∙ (λ i. step job (c.actor_of.ensures i) (h.1 i)) ∙ sym (after-snoc job s c.args.actor))
