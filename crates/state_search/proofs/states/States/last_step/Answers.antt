use Rattle.std.proofs.Common.{◌≡◌, ◌<◌, ◌++◌, [], ◌∷◌, length, slice_get, option_map, Some, sym, ap, subst, ◌∙◌, arith}
use Rattle.state_search.proofs.Entries.{none-there}
use Rattle.state_search.proofs.Steps.{after-at, first-empty, table-length}
use Rattle.state_search.proofs.states.States.last_step.Goals as goal

pub returns-in-Some-clause-schedule : goal.returns-in-Some-clause-schedule
returns-in-Some-clause-schedule c = λ l s at.
    let k = c.in-Some.field-0-0.now in
    let p = c.in-Some.step.now in
    let here = after-at [] c.self.inside.table c.args.at c.args.at k p (sym c.in-Some.ensures) (omega arith) (c.self.invariant c.args.at k p (sym c.in-Some.ensures) (omega (arith, c.if-at-gt0.true))) l s
    (subst (λ es. slice_get es p.before ≡ Some (l, s)) (sym c.self.view_is) at) in
    (k, subst (λ es. slice_get es c.args.at ≡ Some (k, s ++ p.actor ∷ [])) c.self.view_is here)

pub returns-in_default-clause-first : goal.returns-in_default-clause-first
returns-in_default-clause-first c = λ k s at.
    let first : c.args.at ≡ 0 = omega (arith, c.if-at-gt0.false) in
    first-empty c.self.inside.table k s (ap (λ es. slice_get es 0) c.self.view_is ∙ subst (λ i. slice_get c.args.self.now i ≡ Some (k, s)) first at)

pub returns-in_default-2-clause-first : goal.returns-in_default-2-clause-first
returns-in_default-2-clause-first c =
    let h : c.args.at < length c.args.self.now = c.requires in
    let l = table-length c.self.inside.table in
    let v = ap length c.self.view_is in
    absurd (none-there c.self.inside.table c.args.at (sym c.entry.ensures ∙ ap (option_map (λ e. (e.0.now, e.1.now))) c.in_default.is) (omega (arith, h, l, v)))
