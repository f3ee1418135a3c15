use Rattle.std.proofs.Common.{◌∙◌}
use Rattle.live_seats.proofs.StartToEnd.{all_ended, seats_ended, seats_started}
use Rattle.ft_app.proofs.run.run_job.Goals as goal

pub run_live-requires-clause-cpus : goal.run_live-requires-clause-cpus
run_live-requires-clause-cpus g c = λ _ _. seats_started _ _ c.in_ok-live.ensures.cpus

-- all lines were led at the start
pub gathered-requires-clause-led : goal.gathered-requires-clause-led
gathered-requires-clause-led g c = c.in-Ok.ensures.ok.0.0.led ∙ c.in_ok-live.ensures.control.led

pub gathered-requires-clause-cpus : goal.gathered-requires-clause-cpus
gathered-requires-clause-cpus g c = seats_ended _ _ _ (seats_started _ _ c.in_ok-live.ensures.cpus) c.in-Ok.ensures.ok.1

pub gathered-requires-clause-ended : goal.gathered-requires-clause-ended
gathered-requires-clause-ended g c = all_ended _ _ _ _ c.in-Ok.ensures.ok.0 c.in-Ok.ensures.ok.1
