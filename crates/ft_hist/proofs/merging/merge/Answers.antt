-- The room is filled, so what is written is all by place; and one more list leaves the rest to be written.
use Rattle.std.proofs.Common.{◌≡◌, length, ap, ◌∙◌, subst, sym, arith}
use Rattle.std.specs.List.{AllByRecursion as Each}
use Rattle.std.proofs.lemmas.List.{at_drop_all}
use Rattle.ft_hist.specs.Placing.{AreCounted, items_of, placed, placed_all, total}
use Rattle.ft_hist.proofs.Written.{placed-by_place, one-more-list}
use Rattle.ft_hist.proofs.merging.merge.Goals as goal

pub loop-list-2-init : goal.loop-list-2-init
loop-list-2-init c =
    let n = total (items_of c.args.lists.items) in
    let filled : length c.loop-list.history.items ≡ n =
    (let past = c.loop-list-test.false in
    let none = at_drop_all (λ vs. total (items_of vs)) c.deref-list-items.result.now c.loop-list.list-index (omega (arith, past)) in
    let sum = c.loop-list.invariant.longer in
    omega (arith, none, sum)) in
    let same : c.deref-list-items-2.result.now ≡ c.args.lists.items = c.deref-list-items-2.ensures.value in
    record {
      rest = ap (λ vs. placed_all c.loop-list.history.items (items_of vs)) same ∙ placed-by_place n (items_of c.args.lists.items) c.requires.places c.loop-list.history.items filled;
      within = subst (λ vs. Each (AreCounted (length c.loop-list.history.items)) (items_of vs)) (sym same)
          (subst (λ k. Each (AreCounted k) (items_of c.args.lists.items)) (sym filled) c.requires.places.below);
    }

pub loop-list-2-preserved : goal.loop-list-2-preserved
loop-list-2-preserved c =
    let step = one-more-list c.loop-list-2.history.items c.place.new.history.items c.deref-list-items-2.result.now c.loop-list-2.list-index
    c.list-item-in-loop-list-2.result c.loop-list-2-test.true c.list-item-in-loop-list-2.is
    (c.place.ensures ∙ ap (λ xs. placed c.loop-list-2.history.items xs) c.deref-in-loop-list-2.ensures.value) c.loop-list-2.invariant.within in
    record { rest = step.0 ∙ c.loop-list-2.invariant.rest; within = step.1 }
