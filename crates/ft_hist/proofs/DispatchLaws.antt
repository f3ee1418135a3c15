-- A call in its dispatch, on desks that may change under it: who is still to be called.
use Rattle.std.proofs.Common.{◌≡◌, ℕ, Bool, false, not, ◌&&◌, ◌==◌, List, ◌∷◌, sym, ◌∙◌, subst, inl, inr, ne_eqb}
use Rattle.std.proofs.lemmas.Bool.{cases_eq}
use Rattle.ft_base.specs.declared.number.CallNo.{CallNo}
use Rattle.ft_base.specs.declared.item.Item.{Item}
use Rattle.ft_base.specs.Job.{Job}
use Rattle.ft_base.specs.Desk.{desk, is_on}
use Rattle.ft_base.proofs.Small.{false_true}
use Rattle.ft_hist.specs.Rules.{IsUnvisited}
use Rattle.ft_hist.specs.Known.{WasOff, Watches}
use Rattle.ft_hist.proofs.WindowLaws.{InWindow-more, visits-more, is_enter, is_visit}

module _ (job : Job) (call : CallNo) (f : ℕ) (past : List Item) (todo : ℕ → Bool) (w : Watches job call f past todo) where
  -- any other item, of whichever actor
  pub watches-other : (item : Item) → is_enter call item ≡ false → is_visit call item ≡ false → Watches job call f (item ∷ past) todo
  watches-other item no_enter no_visit u un =
      elim (w u (rw (visits-more job call item past no_visit) at un)) [
        | inl x ↦ inl x
        | inr x ↦ inr (InWindow-more call item past (λ k. is_on (desk job k) u f ≡ false) no_enter x)
      ]

  -- a user is passed over, since it was off
  pub watches-passed : (v : ℕ) → WasOff job call f v past → Watches job call f past (λ u. not (v == u) && todo u)
  watches-passed v off u un =
      elim (cases_eq v u) [
        | inl e ↦ inr (subst (λ x. WasOff job call f x past) e off)
        | inr ne ↦ elim (w u un) [ inl x ↦ inl (rw (ne_eqb v u ne) x) | inr x ↦ inr x ]
      ]

  -- a list that has grown by users that were off
  pub watches-at_end : ((u : ℕ) → todo u ≡ false) → (u : ℕ) → IsUnvisited job call u past → WasOff job call f u past
  watches-at_end none u un = elim (w u un) [ inl x ↦ false_true (sym (none u) ∙ x) | inr x ↦ x ]
