use Rattle.std.proofs.Common.{ℕ, List, ◌≤◌, length, sym, ap, subst, ◌∙◌}
use Rattle.std.specs.Prelude.{slice_index}
use Rattle.ft_base.specs.declared.limits.TheConstants.{ITEMS}
use Rattle.std.proofs.lemmas.List.FromFn.{length-map-range_with_len}
use Rattle.std.proofs.lemmas.Option.{same_Some}
use Rattle.word_machine.specs.Laws.{room_on}
use Rattle.word_machine.specs.Limits.{IsLimited}
use Rattle.ring_rules.specs.Plan.{TracePlan, plan_of}
use Rattle.ring_table.specs.Seats.{AreSeats as AreRings, Board as RingBoard}
use Rattle.live_seats.proofs.StartToEnd.{all_ended, seats_ended, seats_started}
use Rattle.live_threads.proofs.RingRooms.{rooms-few}
use Rattle.live_threads.proofs.RingSeats.{all_traced_sit, rings_ended, rings_started, seats_traced}
use Rattle.live_threads.proofs.rings.run_rings.Goals as goal

pub start-requires-clause-rooms : goal.start-requires-clause-rooms
start-requires-clause-rooms g c =
    let job = c.args.job.now in
    ap (λ (l : List ℕ). length l) (c.as_slice.ensures.value ∙ c.in_ok-items.ensures)
    ∙ length-map-range_with_len (room_on job) 0 (length job.quanta) ∙ ap (λ (p : TracePlan). p.cpus) (sym c.in_ok-plan.ensures)

pub start-requires-clause-few : goal.start-requires-clause-few
start-requires-clause-few g c =
    subst (λ (l : List ℕ). (k : ℕ) → slice_index l k ≤ ITEMS) (sym (c.as_slice.ensures.value ∙ c.in_ok-items.ensures))
    (rooms-few c.args.job.now c.users-users.ensures.limited)

pub run_traced-ended-requires-clause-seats : goal.run_traced-ended-requires-clause-seats
run_traced-ended-requires-clause-seats g c κs within =
    let s = c.in_ok-live in
    let t = c.in_ok-table in
    let plan = t.ensures.plan ∙ c.in_ok-plan.ensures in
    let rings = rings_started _ _ _ _ _ _ s.ensures.job plan s.ensures.cpus t.ensures.seats in
    let k = s.ensures.control in
    all_traced_sit s.field-0.live t.field-0.table s.field-0.control s.field-0.cpus.items t.field-0.seats.items (k.table_id, k.job)
    (seats_started _ _ s.ensures.cpus) rings

pub run_traced-ended-requires-clause-traced : goal.run_traced-ended-requires-clause-traced
run_traced-ended-requires-clause-traced g c κs within =
    let s = c.in_ok-live in
    let t = c.in_ok-table in
    let plan = t.ensures.plan ∙ c.in_ok-plan.ensures in
    seats_traced _ _ _ _ _ _ s.ensures.job plan s.ensures.cpus t.ensures.seats (c.as_slice.ensures.value ∙ c.in_ok-items.ensures)

pub gathered-requires-clause-limited : goal.gathered-requires-clause-limited
gathered-requires-clause-limited g c = subst IsLimited (sym c.in_ok-live.ensures.job) c.users-users.ensures.limited

pub gathered-requires-clause-plan : goal.gathered-requires-clause-plan
gathered-requires-clause-plan g c =
    ap (λ (t : RingBoard). t.plan) (sym (same_Some _ _ c.in-Some.is)) ∙ c.in_ok-table.ensures.plan ∙ c.in_ok-plan.ensures
    ∙ ap plan_of (sym c.in_ok-live.ensures.job)

-- all lines were led at the start
pub gathered-requires-clause-led : goal.gathered-requires-clause-led
gathered-requires-clause-led g c = c.run_traced-ended.ensures.control.0.led ∙ c.in_ok-live.ensures.control.led

pub gathered-requires-clause-cpus : goal.gathered-requires-clause-cpus
gathered-requires-clause-cpus g c = seats_ended _ _ _ (seats_started _ _ c.in_ok-live.ensures.cpus) c.run_traced-ended.ensures.cpus

pub gathered-requires-clause-rings : goal.gathered-requires-clause-rings
gathered-requires-clause-rings g c =
    let s = c.in_ok-live in
    let t = c.in_ok-table in
    let plan = t.ensures.plan ∙ c.in_ok-plan.ensures in
    subst (λ (x : RingBoard). AreRings x c.run_traced-ended.result.rings.items) (same_Some _ _ c.in-Some.is)
    (rings_ended _ _ _ (rings_started _ _ _ _ _ _ s.ensures.job plan s.ensures.cpus t.ensures.seats) c.run_traced-ended.ensures.rings)

pub gathered-requires-clause-ended : goal.gathered-requires-clause-ended
gathered-requires-clause-ended g c = all_ended _ _ _ _ c.run_traced-ended.ensures.control c.run_traced-ended.ensures.cpus
