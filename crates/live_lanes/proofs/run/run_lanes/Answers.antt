use Rattle.std.proofs.Common.{ℕ, List, ◌<◌, length, ap, sym, subst, arith}
use Rattle.std.specs.List.{AllByRecursion as Each}
use Rattle.ft_base.specs.declared.limits.TheConstants.{LANES}
use Rattle.live_seats.proofs.StartToEnd.{seats_ended, seats_started}
use Rattle.live_lanes.proofs.Conducting.{lane_each}
use Rattle.live_lanes.proofs.LaneRuns.{all_ready, all_served}
use Rattle.live_lanes.proofs.run.run_lanes.Goals as goal

pub counts_of-requires-clause-lanes : goal.counts_of-requires-clause-lanes
counts_of-requires-clause-lanes g c = subst (λ l. Each (λ lane. lane < LANES) l) (sym c.lanes.ensures.lanes) c.requires.lanes.numbers

pub counts_of-requires-clause-few : goal.counts_of-requires-clause-few
counts_of-requires-clause-few g c =
    let e = ap (λ (l : List ℕ). length l) c.lanes.ensures.lanes in
    let n = lane_each c.args.job c.requires.lanes in
    let m = c.users-users.ensures.limited.ctls in
    omega (arith, e, n, m)

pub run_in-ended-requires-clause-ready : goal.run_in-ended-requires-clause-ready
run_in-ended-requires-clause-ready g c κs within =
    let s = c.in-Ok-start_open in
    all_ready s.field-0.live c.args.job c.lanes.result.now c.lanes-lanes.result.now c.in-Ok.counts.items c.as_slice.result.now s.field-0.control
    c.requires.lanes s.ensures.job c.lanes.ensures.lanes c.lanes-lanes.ensures.lanes
    c.as_slice.ensures.value c.in-Ok.ensures.counts (length c.args.job.quanta) c.users-users.ensures.limited c.in-Ok.ensures.few c.in-Ok.ensures.sum
    s.ensures.control s.ensures.ended

pub run_in-ended-requires-clause-cpus : goal.run_in-ended-requires-clause-cpus
run_in-ended-requires-clause-cpus g c κs within =
    seats_started c.in-Ok-start_open.field-0.live c.in-Ok-start_open.field-0.cpus.items c.in-Ok-start_open.ensures.cpus

pub gathered-requires-clause-job : goal.gathered-requires-clause-job
gathered-requires-clause-job g c = (c.requires.lanes, c.in-Ok-start_open.ensures.job)

pub gathered-requires-clause-control : goal.gathered-requires-clause-control
gathered-requires-clause-control g c = c.run_in-ended.ensures.control.0

pub gathered-requires-clause-cpus : goal.gathered-requires-clause-cpus
gathered-requires-clause-cpus g c =
    let s = c.in-Ok-start_open in
    seats_ended s.field-0.live s.field-0.cpus.items c.run_in-ended.result.cpus.items
    (seats_started s.field-0.live s.field-0.cpus.items s.ensures.cpus) c.run_in-ended.ensures.cpus

pub gathered-requires-clause-ended : goal.gathered-requires-clause-ended
gathered-requires-clause-ended g c =
    let r = c.run_in-ended in
    record { control_over = r.ensures.control.1; cpus_over = λ k t at. (r.ensures.cpus.each k t at).2.1 }

pub gathered-requires-clause-served : goal.gathered-requires-clause-served
gathered-requires-clause-served g c =
    let s = c.in-Ok-start_open in
    let r = c.run_in-ended in
    all_served s.field-0.live c.args.job c.lanes.result.now c.lanes-lanes.result.now c.in-Ok.counts.items c.as_slice.result.now s.field-0.control
    c.requires.lanes s.ensures.job c.lanes.ensures.lanes c.lanes-lanes.ensures.lanes
    c.as_slice.ensures.value c.in-Ok.ensures.counts r.result.control.order r.ensures.order
