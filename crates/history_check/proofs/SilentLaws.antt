-- Who was neither visited in a call nor off.
use Rattle.std.proofs.Common.{◌≡◌, ℕ, ◌+◌, ◌<◌, ◌≤◌, ◌⊎◌, Bool, true, false, ◌==◌, List, length, refl, sym, ◌∙◌, arith, inl, inr, below_more}
use Rattle.std.specs.Prelude.{IsTrue, ◌↔◌}
use Rattle.std.specs.List.{list_any}
use Rattle.ft_base.specs.declared.number.CallNo.{CallNo}
use Rattle.ft_base.specs.declared.item.Item.{Item}
use Rattle.ft_base.specs.Job.{Job}
use Rattle.ft_base.specs.Desk.{desk, is_on}
use Rattle.ft_base.proofs.Small.{false_true}
use Rattle.ft_hist.specs.Past.{begun, entry_of, visits}
use Rattle.ft_hist.specs.Rules.{InWindow, IsSilent}
use Rattle.history_check.specs.DeskRows.{WasOff}

-- each of the first n users was visited or off
abbrev pub SilentBelow : Job → (ℕ → Bool) → ℕ → ℕ → ℕ → ℕ → Type 0
SilentBelow job seen from last f n = (v : ℕ) → v < n → seen v ≡ false → WasOff job from last v f

module _ (job : Job) (seen : ℕ → Bool) (from last f : ℕ) where
  -- one user more
  pub silent-more : (n : ℕ) → SilentBelow job seen from last f n → (seen n ≡ true) ⊎ WasOff job from last n f → SilentBelow job seen from last f (n + 1)
  silent-more n so-far here = below_more _ _ so-far (one here)
    where
      one : (seen n ≡ true) ⊎ WasOff job from last n f → seen n ≡ false → WasOff job from last n f
      one (inl was) none = false_true (sym none ∙ was)
      one (inr off) none = off

  module _ (past : List Item) (call : CallNo) (from-is : from ≡ (entry_of call past).from) (last-is : last ≡ begun past) (f-is : f ≡ (entry_of call past).func)
      (seen-is : (u : ℕ) → seen u ≡ list_any (λ m. m.user == u) (visits job call past)) where
    off-in-window : (u : ℕ) → WasOff job from last u f → InWindow call past (λ n. is_on (desk job n) u (entry_of call past).func ≡ false)
    off-in-window u off = rw (sym from-is, sym last-is, sym f-is) off

    window-off : (u : ℕ) → InWindow call past (λ n. is_on (desk job n) u (entry_of call past).func ≡ false) → WasOff job from last u f
    window-off u off = rw (from-is, last-is, f-is) off

    -- all users
    pub silent : (n : ℕ) → length job.users ≤ n → SilentBelow job seen from last f n → IsTrue true ↔ IsSilent job past call
    silent n all below = (
      λ t u lt none. off-in-window u (below u (omega (arith, lt, all)) (seen-is u ∙ none)),
      λ s. refl,
    )

    -- a user that was neither
    pub not-silent : (u : ℕ) → u < length job.users → seen u ≡ false → (b : Bool) → (IsTrue b ↔ WasOff job from last u f) → b ≡ false → IsTrue false ↔ IsSilent job past call
    not-silent u lt none b off is = (
      λ t. false_true t,
      λ s. sym is ∙ off.1 (window-off u (s u lt (sym (seen-is u) ∙ none))),
    )
