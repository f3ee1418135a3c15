use Rattle.std.proofs.Common.{◌≡◌, ◌+◌, ℕ, List, [], ◌∷◌, ◌++◌, drop, sym, ap, ap₂, ◌∙◌, arith}
use Rattle.std.proofs.lemmas.List.{at_drop_all}
use Rattle.log_reader.proofs.ReadLines.{pushed}
use Rattle.judge_app.specs.Lanes.{told}
use Rattle.judge_app.proofs.LaneOrders.{told-found, told-passed}
use Rattle.judge_app.proofs.lanes.order_told.Goals as goal
use Rattle.judge_app.proofs.lanes.order_told.Goals.{in-Some+else-is_err, in_default}

pub loop-lane-init : goal.loop-lane-init
loop-lane-init c = ap₂ (λ (os ls : List ℕ). os ++ told c.args.lanes.now c.args.named.now ls) c.new-order.ensures.items c.in_ok-left.ensures

pub loop-lane-preserved : goal.loop-lane-preserved
loop-lane-preserved c = elim c.match-take_first.branch [
  | in-Some+else-is_err w ↦
      let lanes = c.args.lanes.now in
      let order = c.loop-lane.order.items in
      let line = w.in-Some.line in
      let grown : c.match-take_first.order.items ≡ order ++ line ∷ [] =
      (λ i. (w.order-is i).items)
      ∙ pushed w.push.result order (order ++ line ∷ []) w.push.new.self.items w.push.ensures.items (sym w.is_err.ensures.value ∙ w.if-is_err.false) in
      ap (λ (os : List ℕ). os ++ told lanes (drop (c.loop-lane.lane-index + 1) c.args.named.now) c.take_first.new.left.items) grown
      ∙ told-found lanes c.args.named.now order c.loop-lane.left.items c.loop-lane.lane-index c.loop-lane-test.true line c.take_first.new.left.items w.in-Some.ensures.some
      ∙ c.loop-lane.invariant
  | in_default w ↦
      let lanes = c.args.lanes.now in
      let named = c.args.named.now in
      let order = c.loop-lane.order.items in
      let i = c.loop-lane.lane-index in
      let none = w.in_default.ensures.none in
      ap₂ (λ (os ls : List ℕ). os ++ told lanes (drop (i + 1) named) ls) (λ j. (w.order-is j).items) none.1
      ∙ told-passed lanes named order c.loop-lane.left.items i c.loop-lane-test.true none.0
      ∙ c.loop-lane.invariant
]

pub returns : goal.returns
returns c =
    let lanes = c.args.lanes.now in
    let order = c.loop-lane.order.items in
    let left = c.loop-lane.left.items in
    let past = c.loop-lane-test.false in
    let all = at_drop_all (λ (ns : List ℕ). order ++ told lanes ns left) c.args.named.now c.loop-lane.lane-index (omega (arith, past)) in
    pushed c.extend_from_slice.result order (order ++ c.as_slice.result.now) c.extend_from_slice.new.self.items c.extend_from_slice.ensures.items
    (sym c.is_err-2.ensures.value ∙ c.if-is_err-2.false)
    ∙ ap (λ (ls : List ℕ). order ++ ls) c.as_slice.ensures.value ∙ sym all ∙ c.loop-lane.invariant
