use Rattle.std.proofs.Common.{◌≡◌, ◌<◌, ℕ, List, ◌==◌, length, position, get_or, Some, None, refl, sym, ap, ap₂, ◌∙◌, subst}
use Rattle.std.proofs.lemmas.List.{get_or_read}
use Rattle.word_machine_laws.specs.Orders.{lane_of}
use Rattle.judge_app.proofs.LaneOrders.{a-place, no-place}
use Rattle.judge_app.proofs.lanes.take_first.Goals as goal

pub returns-in_err-at-clause-none : goal.returns-in_err-at-clause-none
returns-in_err-at-clause-none c =
    let lanes = c.args.lanes.now in
    let place : position (λ k. lane_of lanes k == c.args.lane) c.args.left.now.items ≡ None =
    ap (λ (ls : List ℕ). position (λ k. lane_of lanes k == c.args.lane) ls) (sym c.as_slice.ensures.value) ∙ sym c.in_err-at.ensures.place in
    rw c.from_residual.ensures (no-place lanes c.args.lane c.args.left.now.items place, refl)

pub returns-clause-some : goal.returns-clause-some
returns-clause-some c =
    let lanes = c.args.lanes.now in
    let left = c.args.left.now.items in
    let at = c.in_ok-at.at in
    let place : position (λ k. lane_of lanes k == c.args.lane) left ≡ Some at =
    ap (λ (ls : List ℕ). position (λ k. lane_of lanes k == c.args.lane) ls) (sym c.as_slice.ensures.value) ∙ sym c.in_ok-at.ensures.place in
    let lt : at < length left = subst (λ (ls : List ℕ). at < length ls) c.as_slice.ensures.value c.in_ok-at.ensures.within in
    let value : c.remove.result ≡ get_or left at 0 = get_or_read left at c.remove.result lt c.remove.ensures.value 0 in
    a-place lanes c.args.lane left at place ∙ ap₂ (λ n ns. Some (n, ns)) (sym value) (sym c.remove.ensures.items)
