use Rattle.std.proofs.Common.{◌≡◌, ◌≤◌, ◌+◌, ℕ, List, [], ◌∷◌, ◌++◌, length, drop, Option, sym, ap, ◌∙◌, append_assoc, append-nil, subst, arith}
use Rattle.std.proofs.lemmas.List.Quantifiers.{position-Some}
use Rattle.log_reader.specs.Lanes.{lanes_named, with_lane}
use Rattle.log_reader.proofs.LanesNamed.{left-is, left-short, named-line, no-line, with-append}
use Rattle.log_reader.proofs.ReadLines.{pushed}
use Rattle.log_reader.proofs.lanes.read_lanes.Goals as goal
use Rattle.log_reader.proofs.lanes.read_lanes.Goals.{in-Some-line_lane+else-is_err, in_default-line_lane}

pub loop-end-init : goal.loop-end-init
loop-end-init c = (ap (λ (ns : List ℕ). ns ++ lanes_named c.args.text.now) (sym c.new-named.ensures.items), omega arith)

pub overflow_add-rest : goal.overflow_add-rest
overflow_add-rest c =
    let at = position-Some _ c.loop-end.rest.now c.in-Some.end 0 (sym c.in-Some.ensures) in
    let end = at.0 in
    let left = c.loop-end.invariant.1 in
    let few = c.requires in
    omega (arith, end, left, few)

pub loop-end-preserved : goal.loop-end-preserved
loop-end-preserved c =
    let text = c.args.text.now in
    let named = c.loop-end.named.items in
    let rest = c.loop-end.rest.now in
    let end = c.in-Some.end in
    let lane = c.line_lane.result in
    let now = c.match-line_lane.named.items in
    let more = lanes_named (drop (end + 1) rest) in
    let step : lanes_named text ≡ (named ++ with_lane lane []) ++ more =
    c.loop-end.invariant.0
    ∙ ap (λ (ls : List ℕ). named ++ ls)
    (named-line rest end (sym c.in-Some.ensures) ∙ ap (λ (o : Option ℕ). with_lane o more) (sym c.line_lane.ensures) ∙ with-append lane [] more)
    ∙ sym (append_assoc named (with_lane lane []) more) in
    let same : now ≡ named ++ with_lane lane [] = elim c.match-line_lane.branch [
      | in-Some-line_lane+else-is_err w ↦
          (λ i. (w.named-is i).items)
          ∙ pushed w.push.result named (named ++ w.in-Some-line_lane.lane ∷ []) w.push.new.self.items w.push.ensures.items (sym w.is_err.ensures.value ∙ w.if-is_err.false)
          ∙ ap (λ (o : Option ℕ). named ++ with_lane o []) (sym w.in-Some-line_lane.is)
      | in_default-line_lane w ↦ (λ i. (w.named-is i).items) ∙ sym (append-nil named) ∙ ap (λ (o : Option ℕ). named ++ with_lane o []) (sym w.in_default-line_lane.is)
    ] in
    let short = left-short rest (end + 1) in
    let before = c.loop-end.invariant.1 in
    subst (λ (left : List ℕ). (lanes_named text ≡ now ++ lanes_named left) × (length left ≤ length text)) (sym (left-is rest (end + 1)))
    (step ∙ ap (λ (ns : List ℕ). ns ++ more) (sym same), omega (arith, short, before))

pub returns : goal.returns
returns c =
    let named = c.loop-end.named.items in
    sym (c.loop-end.invariant.0 ∙ ap (λ (ls : List ℕ). named ++ ls) (no-line c.loop-end.rest.now (sym c.line_end.ensures ∙ c.in_default.is)) ∙ append-nil named)
