-- A user may be visited exactly if the three tests say so.
use Rattle.std.proofs.Common.{◌≡◌, ◌∙◌, Bool, true, false, not, ◌&&◌, refl, sym, ap, subst}
use Rattle.std.specs.Prelude.{IsTrue, ◌↔◌}
use Rattle.ft_base.proofs.Small.{and-false}
use Rattle.history_check.specs.CallbackCheck.{is_before, is_visited}
use Rattle.history_check.proofs.BacksLaws.{may-is}
use Rattle.history_check.proofs.backs.Check.visit.Goals as goal
use Rattle.history_check.proofs.backs.Check.visit.Goals.{then-not-is_on-via-then-not-is_on, then-not-is_on-via-else-not-is_on+then-not-is_before}

-- a test that is another
same-test : {A : Type 0} (a b : Bool) → a ≡ b → (IsTrue a ↔ A) → IsTrue b ↔ A
same-test {A} a b e h = subst (λ x. IsTrue x ↔ A) e h

pub returns-then-not-is_on-clause-may : goal.returns-then-not-is_on-clause-may
returns-then-not-is_on-clause-may c = λ job past k.
    let old = c.args.self.now in
    let entry = c.entry-entry.result in
    let before = is_before c.since-since.result entry.latest in
    let fresh = not (is_visited old c.args.call c.args.user.0) in
    let may = may-is job past old k c.args.call entry c.entry-entry.ensures c.args.user.0 c.registered_at-at.result (c.registered_at-at.ensures job k.desks)
    c.since-since.result (c.since-since.ensures job k.desks) c.is_on.result before (c.is_on.ensures job k.desks) refl in
    elim c.then-not-is_on.branch [
      | then-not-is_on-via-then-not-is_on w ↦ same-test (c.is_on.result && before && fresh) false (ap (λ on. on && before && fresh) w.if-not-is_on.true) may
      | then-not-is_on-via-else-not-is_on+then-not-is_before w ↦
          same-test (c.is_on.result && before && fresh) false (ap (λ b. c.is_on.result && b && fresh) (sym w.is_before.ensures ∙ w.if-not-is_before.true) ∙ ap (λ b. b && fresh) (and-false c.is_on.result)) may
    ]

pub returns-clause-may : goal.returns-clause-may
returns-clause-may c = λ job past k.
    let old = c.args.self.now in
    let entry = c.entry-entry.result in
    let fresh = not (is_visited old c.args.call c.args.user.0) in
    let may = may-is job past old k c.args.call entry c.entry-entry.ensures c.args.user.0 c.registered_at-at.result (c.registered_at-at.ensures job k.desks)
    c.since-since.result (c.since-since.ensures job k.desks) c.is_on.result c.is_before.result (c.is_on.ensures job k.desks) c.is_before.ensures in
    same-test (c.is_on.result && c.is_before.result && fresh) c.in_ok-is_new.is_new
    (ap (λ b. b && c.is_before.result && fresh) c.if-not-is_on.false ∙ ap (λ b. true && b && fresh) c.if-not-is_before.false ∙ sym c.in_ok-is_new.ensures.first) may
