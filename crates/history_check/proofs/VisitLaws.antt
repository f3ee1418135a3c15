-- Who may be visited in a call: the three tests of it.
use Rattle.std.proofs.Common.{cond, ◌≡◌, ℕ, ◌<◌, Bool, true, false, not, ◌&&◌, ◌==◌, List, refl, sym, ap, ◌∙◌, subst, inl, inr}
use Rattle.std.specs.Prelude.{IsTrue, ◌↔◌}
use Rattle.std.specs.List.{list_any, AllByRecursion as Each}
use Rattle.std.specs.Cmp.Derive.{both_true}
use Rattle.std.proofs.lemmas.Bool.{not-true}
use Rattle.ft_base.specs.declared.number.CallNo.{CallNo}
use Rattle.ft_base.specs.declared.item.Item.{Item}
use Rattle.ft_base.specs.Job.{Job}
use Rattle.ft_base.specs.Desk.{desk, is_on, user_at}
use Rattle.ft_base.proofs.Small.{false_true, and_both}
use Rattle.ft_hist.specs.Past.{begun, done, entry_of, registration_at, visits}
use Rattle.ft_hist.specs.Rules.{AtReturnedOrBegun, MayVisit}

module _ (job : Job) (past : List Item) (call : CallNo) (u f at d b : ℕ) (func-is : f ≡ (entry_of call past).func) (done-is : d ≡ done past) (begun-is : b ≡ begun past)
    (registration : at ≡ cond (is_on (desk job d) u f) d b) where
  -- the number of commands is that of the registration
  at-is : at ≡ registration_at job call u past
  at-is = registration ∙ (rw (func-is, done-is, begun-is) refl)

  abbrev OnAt : ℕ → Type 0
  OnAt n = is_on (desk job n) u (entry_of call past).func ≡ true

  on-at : (x : Bool) → is_on (desk job (done past)) u (entry_of call past).func ≡ x → OnAt (cond x (done past) (begun past)) → AtReturnedOrBegun past (λ n. OnAt n)
  on-at true e on = inl on
  on-at false e on = inr on

  at-on : (x : Bool) → is_on (desk job (done past)) u (entry_of call past).func ≡ x → AtReturnedOrBegun past (λ n. OnAt n) → OnAt (cond x (done past) (begun past))
  at-on true e on = e
  at-on false e (inl on) = false_true (sym e ∙ on)
  at-on false e (inr on) = on

  -- it is on then exactly if it may be visited for being on
  on-is : (on : Bool) → on ≡ is_on (desk job at) u f → IsTrue on ↔ AtReturnedOrBegun past (λ n. OnAt n)
  on-is on is =
      let same : on ≡ is_on (desk job (registration_at job call u past)) u (entry_of call past).func = is ∙ (rw (func-is, at-is) refl) in (
        λ e. on-at (is_on (desk job (done past)) u (entry_of call past).func) refl (sym same ∙ e),
        λ h. same ∙ at-on (is_on (desk job (done past)) u (entry_of call past).func) refl h,
      )

  -- it may be visited exactly if it is on, not visited itself, and registered before those that were
  pub may-is : (s : ℕ) → s ≡ (user_at (desk job at) u).since → (on seen before : Bool) → on ≡ is_on (desk job at) u f → seen ≡ list_any (λ m. m.user == u) (visits job call past)
      → (IsTrue before ↔ Each (λ m. s < m.since) (visits job call past)) → IsTrue (on && not seen && before) ↔ MayVisit job past call u
  may-is s since on seen before is-on is-seen order =
      let number : s ≡ (user_at (desk job (registration_at job call u past)) u).since = since ∙ ap (λ n. (user_at (desk job n) u).since) at-is in (
        λ e.
            (let both = and_both (on && not seen) before e in
            let first = and_both on (not seen) both.0 in
            record {
              on = (on-is on is-on).0 first.0;
              once = sym is-seen ∙ not-true seen first.1;
              order = subst (λ n. Each (λ m. n < m.since) (visits job call past)) number (order.0 both.1);
            }),
        λ (may : MayVisit job past call u).
            both_true
            (both_true ((on-is on is-on).1 may.on) (ap not (is-seen ∙ may.once)))
            (order.1 (subst (λ n. Each (λ m. n < m.since) (visits job call past)) (sym number) may.order)),
      )
