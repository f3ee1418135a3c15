-- A user may be visited exactly if the three tests say so.
use Rattle.std.proofs.Common.{◌≡◌, not, ◌&&◌, ◌==◌, nat_lt, ap, refl, sym, ◌∙◌, subst}
use Rattle.std.specs.Prelude.{IsTrue, ◌↔◌}
use Rattle.std.specs.List.{list_all, list_any}
use Rattle.ft_base.specs.Desk.{desk, user_at}
use Rattle.ft_hist.specs.Rules.{MayVisit}
use Rattle.history_check.specs.declared.open_call.Visit.{Visit}
use Rattle.history_check.proofs.RuleCallbacks.{order-is}
use Rattle.history_check.proofs.RuleCalls.{func-is, visited-is}
use Rattle.history_check.proofs.VisitLaws.{may-is}
use Rattle.history_check.proofs.rules.callbacks.may_visit.Goals as goal
use Rattle.history_check.proofs.rules.callbacks.may_visit.Goals.{then-is_on, else-is_on}

pub returns-then-not-has_visited : goal.returns-then-not-has_visited
returns-then-not-has_visited c = λ job items k top.
    let t = c.args.top.now in
    let u = c.args.user.0 in
    let seen = list_any (λ m. m.user.0 == u) t.visits.items in
    let first : c.if-is_on.value ≡ (c.is_on.result && not seen) =
    elim c.if-is_on.branch [
      | then-is_on w ↦ w.value-is ∙ ap not w.has_visited.ensures ∙ sym (ap (λ b. b && not seen) w.if-is_on.true)
      | else-is_on w ↦ w.value-is ∙ w.if-is_on.false ∙ sym (ap (λ b. b && not seen) w.if-is_on.false)
    ] in
    subst (λ b. IsTrue b ↔ MayVisit job items t.call u) (ap (λ b. b && c.is_before_all.result) (sym first ∙ c.if-not-has_visited.true))
    (may-is job items t.call u t.func.0 c.registered_at-at.result c.args.past.now.done c.args.past.now.begun (func-is job items t.call t top) k.done' k.begun' (c.registered_at-at.ensures job k.desks)
    c.since.result (c.since.ensures job k.desks) c.is_on.result seen c.is_before_all.result (c.is_on.ensures job k.desks) (visited-is job items t.call t top u)
    (rw c.is_before_all.ensures (order-is job items t.call t top c.since.result)))

pub returns-else-not-has_visited : goal.returns-else-not-has_visited
returns-else-not-has_visited c = λ job items k top.
    let t = c.args.top.now in
    let u = c.args.user.0 in
    let seen = list_any (λ m. m.user.0 == u) t.visits.items in
    let first : c.if-is_on.value ≡ (c.is_on.result && not seen) =
    elim c.if-is_on.branch [
      | then-is_on w ↦ w.value-is ∙ ap not w.has_visited.ensures ∙ sym (ap (λ b. b && not seen) w.if-is_on.true)
      | else-is_on w ↦ w.value-is ∙ w.if-is_on.false ∙ sym (ap (λ b. b && not seen) w.if-is_on.false)
    ] in
    let since = (user_at (desk job c.registered_at-at.result) u).since in
    let before = list_all (λ (m : Visit). nat_lt since m.since) t.visits.items in
    subst (λ b. IsTrue b ↔ MayVisit job items t.call u) (ap (λ b. b && before) (sym first ∙ c.if-not-has_visited.false) ∙ sym c.if-not-has_visited.false)
    (may-is job items t.call u t.func.0 c.registered_at-at.result c.args.past.now.done c.args.past.now.begun (func-is job items t.call t top) k.done' k.begun' (c.registered_at-at.ensures job k.desks)
    since refl c.is_on.result seen before (c.is_on.ensures job k.desks) (visited-is job items t.call t top u) (order-is job items t.call t top since))
