use Rattle.std.proofs.Common.{◌∙◌, sym, true≢false, refl, arith}
use Rattle.std.proofs.lemmas.Bool.{ltb-true}
use Rattle.module_coverage.proofs.Calls.{history-ordered, call-uncovered, uncovered-call}
use Rattle.module_coverage.proofs.uncovered.uncovered_line.Goals as goal

pub returns-then-is_away_in : goal.returns-then-is_away_in
returns-then-is_away_in c = λ plan keeps.
    let lookup = c.in_ok-history.ensures.lookup in
    let inside = ltb-true _ _ (sym lookup.0) in
    let lies = sym c.owner_of.ensures ∙ c.in_ok-owner.was in
    let answer = rw c.as_slice.ensures.value at c.is_away_in.ensures in
    let ordered = history-ordered plan c.args.owners.now c.args.histories.now keeps c.args.span c.in_ok-owner.owner c.in_ok-history.history.now inside lookup.1 lies in
    ((call-uncovered plan c.args.owners.now c.args.histories.now keeps c.args.span c.in_ok-owner.owner c.in_ok-history.history.now inside lookup.1 lies ((answer ordered).0 c.if-is_away_in.true), refl), λ m h. omega (arith, h.1))

pub returns-else-is_away_in : goal.returns-else-is_away_in
returns-else-is_away_in c = λ plan keeps m h.
    let lookup = c.in_ok-history.ensures.lookup in
    let inside = ltb-true _ _ (sym lookup.0) in
    let lies = sym c.owner_of.ensures ∙ c.in_ok-owner.was in
    let answer = rw c.as_slice.ensures.value at c.is_away_in.ensures in
    let ordered = history-ordered plan c.args.owners.now c.args.histories.now keeps c.args.span c.in_ok-owner.owner c.in_ok-history.history.now inside lookup.1 lies in
    true≢false (sym ((answer ordered).1 (uncovered-call plan c.args.owners.now c.args.histories.now keeps c.args.span c.in_ok-owner.owner c.in_ok-history.history.now inside lookup.1 lies h.0)) ∙ c.if-is_away_in.false)
