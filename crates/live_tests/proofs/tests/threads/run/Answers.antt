use Rattle.live_seats.proofs.StartToEnd.{seats_ended, seats_started}
use Rattle.live_tests.proofs.tests.threads.run.Goals as goal

pub run_live-requires-clause-cpus : goal.run_live-requires-clause-cpus
run_live-requires-clause-cpus g c κs within = let s = c.in_ok-live in seats_started s.field-0.live s.field-0.cpus.items s.ensures.cpus

pub gathered-requires-clause-cpus : goal.gathered-requires-clause-cpus
gathered-requires-clause-cpus g c =
    let s = c.in_ok-live in
    let started = seats_started s.field-0.live s.field-0.cpus.items s.ensures.cpus in
    seats_ended s.field-0.live s.field-0.cpus.items c.in-Ok.ended.cpus.items started c.in-Ok.ensures.ok.1
