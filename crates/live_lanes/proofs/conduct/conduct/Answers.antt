use denote.Param.Send.{sendable}
use Rattle.std.proofs.Common.{List, ℕ, ◌∙◌, length, ap, arith}
use Rattle.desk_lock.proofs.Keeping.{seats_count}
use Rattle.live_lanes.proofs.Conducting.{same_actors}
use Rattle.live_lanes.proofs.Sent.{conductor_send}
use Rattle.live_lanes.proofs.conduct.conduct.Goals as goal

pub new-requires-clause-name : goal.new-requires-clause-name
new-requires-clause-name g c = let k = c.keeps.ensures in same_actors g.N.TableNames.here c.args.value.here k.same ∙ k.named

pub run_turns-requires-send-T : goal.run_turns-requires-send-T
run_turns-requires-send-T g c κs within = search (sendable, conductor_send) depth 12

pub run_turns-requires-clause-flags : goal.run_turns-requires-clause-flags
run_turns-requires-clause-flags g c κs within =
    let n = ap length c.in-Ok-new.ensures.seats in
    let m = seats_count 0 g.N.LaneNames.counts in
    let k = ap (λ (l : List ℕ). length l) c.requires.counts.0 in
    let f = c.in-Ok.ensures in
    let s = c.as_slice.ensures.len in
    omega (arith, n, m, k, f, s)

pub run_turns-requires-clause-left : goal.run_turns-requires-clause-left
run_turns-requires-clause-left g c κs within =
    let n = ap length c.in-Ok-new.ensures.seats in
    let m = seats_count 0 g.N.LaneNames.counts in
    let k = ap (λ (l : List ℕ). length l) c.requires.counts.0 in
    let r = c.in-Ok-with_capacity.ensures.capacity in
    (c.in-Ok-with_capacity.ensures.items, omega (arith, n, m, k, r))
