-- One more seat has joined the first one.
use Rattle.std.proofs.Common.{◌++◌, ◌∷◌, [], List, refl, sym, ap, ◌∙◌, append_assoc}
use Rattle.std.specs.Vec.Iter.{into_iter_items}
use Rattle.ring_table.specs.contracts.seats.RingSeat.{the_view}
use Rattle.ring_table.specs.Seats.{SeatPlace}
use Rattle.ring_table.specs.Views.{known_of}
use Rattle.dealt_seats.specs.Views.{cpu, part}
use Rattle.ring_table.proofs.Joined.{counted-more, joined-more, next-at, shares-more}
use Rattle.ring_table.proofs.Steps.{good-counted, view-at}
use Rattle.ring_table.proofs.gather.join_all.Goals as goal

pub join-requires-clause-table : goal.join-requires-clause-table
join-requires-clause-table c =
    let i = c.loop-joining.invariant in
    let done = c.loop-joining.yielded in
    let mine = next-at _ _ done (into_iter_items c.next.new.self) _ c.in-Some.joining c.requires.seats
    (ap (λ (l : List SeatPlace). done ++ l) (sym c.in-Some.ensures.steps.0) ∙ i.rest) in
    (i.table, ap (λ (s : SeatPlace). s.table_id) c.joining.view_is ∙ mine.0)

pub join-requires-clause-seat : goal.join-requires-clause-seat
join-requires-clause-seat c =
    let i = c.loop-joining.invariant in
    let done = c.loop-joining.yielded in
    let mine = next-at _ _ done (into_iter_items c.next.new.self) _ c.in-Some.joining c.requires.seats
    (ap (λ (l : List SeatPlace). done ++ l) (sym c.in-Some.ensures.steps.0) ∙ i.rest) in (
      c.joining.inside.number.0,
      known_of c.joining.inside.seat.me.0,
      view-at c.joining.inside.seat.me c.args.shared.now.key (known_of c.joining.inside.seat.me.0) c.joining.inside.number.0 c.joining.invariant.view'
          (ap (λ (s : SeatPlace). s.plan) c.joining.view_is ∙ mine.1),
    )

pub loop-joining-preserved : goal.loop-joining-preserved
loop-joining-preserved c =
    let i = c.loop-joining.invariant in
    let done = c.loop-joining.yielded in
    let left = into_iter_items c.next.new.self in
    let mine = next-at _ _ done left _ c.in-Some.joining c.requires.seats (ap (λ (l : List SeatPlace). done ++ l) (sym c.in-Some.ensures.steps.0)
    ∙ i.rest) in
    record {
      table = c.join.ensures.same ∙ i.table;
      parts = (
        i.parts.0,
        i.parts.1,
        i.parts.2,
        joined-more _ _ _ _ _ _ _ _ done _ c.in-Some.joining i.parts.3 c.joining.invariant.view'
            (ap (λ (s : SeatPlace). part (cpu s.number) s.known) c.joining.view_is) c.join.ensures.joined,
      );
      kept = shares-more done c.in-Some.joining _ _ _ _ _ i.kept (ap (λ (s : SeatPlace). s.ring) c.joining.view_is)
          (ap (λ (s : SeatPlace). s.fired) c.joining.view_is)
          c.push.ensures;
      counted = counted-more _ _ done (the_view c.joining.inside) c.in-Some.joining i.counted
          (good-counted (the_view c.joining.inside) _ _ _ _ _ _ c.joining.invariant.good refl) c.joining.view_is
          (ap (λ (s : SeatPlace). s.plan) c.joining.view_is ∙ mine.1);
      rest = append_assoc done (c.in-Some.joining ∷ []) left ∙ ap (λ (l : List SeatPlace). done ++ l) (sym c.in-Some.ensures.steps.0) ∙ i.rest;
    }
