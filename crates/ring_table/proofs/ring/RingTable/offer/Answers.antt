-- The seat has made of the items and of this one what it must.
use Rattle.std.proofs.Common.{sym, ap, ◌∙◌}
use Rattle.ring_rules.specs.Hits.{is_traced}
use Rattle.ring_table.specs.Seats.{Board}
use Rattle.ring_table.proofs.Offers.{traced-at, untraced-at}
use Rattle.ring_table.proofs.ring.RingTable.offer.Goals as goal

pub returns-then-is_traced-clause-has : goal.returns-then-is_traced-clause-has
returns-then-is_traced-clause-has c = λ items has.
    traced-at c.args.self.now.plan items c.args.item.now c.args.seat.now _ _ _ c.requires.table.1 c.requires.place c.requires.room has c.pass.ensures
    c.hit_all.ensures
    (ap (λ (b : Board). is_traced b.plan c.args.item.now.item) (sym c.self.view_is) ∙ sym c.is_traced.ensures ∙ c.if-is_traced.true) c.trace.ensures

pub returns-else-is_traced-clause-has : goal.returns-else-is_traced-clause-has
returns-else-is_traced-clause-has c = λ items has.
    untraced-at c.args.self.now.plan items c.args.item.now c.args.seat.now _ _ c.requires.table.1 c.requires.place c.requires.room has c.pass.ensures
    c.hit_all.ensures
    (ap (λ (b : Board). is_traced b.plan c.args.item.now.item) (sym c.self.view_is) ∙ sym c.is_traced.ensures ∙ c.if-is_traced.false)
