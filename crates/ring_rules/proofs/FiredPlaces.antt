-- The places at which a trigger fired are those of different calls.
use Rattle.std.proofs.Common.{◌≡◌, ℕ, zero, suc, true, List, [], ◌∷◌, refl, sym, ap, ◌∙◌, Option, Some}
use Rattle.std.specs.Prelude.{◌==◌, ◌||◌, slice_get}
use Rattle.std.proofs.lemmas.Option.{same_Some}
use Rattle.ft_base.proofs.Small.{false_true, or-true, ==-refl}
use Rattle.ft_base.specs.Job.{Trigger}
use Rattle.ft_base.specs.Marks.{holds}
use Rattle.ft_base.specs.declared.context.Ctx.{Ctx}
use Rattle.ft_base.specs.declared.item.Item.{Item}
use Rattle.ft_base.specs.declared.item.Item.TheVariants.{Enter}
use Rattle.ft_base.specs.declared.number.CallNo.{CallNo}
use Rattle.ft_base.specs.declared.number.FuncNo.{FuncNo}
use Rattle.ring_rules.specs.Hits.{has, is_hit}
use Rattle.ring_rules.specs.Legal.{EachOnce}

-- a hit is the call of a function in the set
pub hit-call : (t : Trigger) (x : Item) → is_hit t x ≡ true
    → (call : CallNo) × (ctx : Ctx) × (func : FuncNo) × (caller : Option CallNo) × (x ≡ Enter call ctx func caller) × (holds t.set func.0 ≡ true)
hit-call t (Enter call ctx f caller) e = (call, ctx, f, caller, refl, e)
hit-call t _ e = false_true e

has-at : (ps : List ℕ) (k p : ℕ) → slice_get ps k ≡ Some p → has ps p ≡ true
has-at [] k p e = absurd cc
has-at (q ∷ qs) zero p e = ap (λ n. (n == p) || has qs p) (same_Some q p e) ∙ ap (λ b. b || has qs p) (==-refl p)
has-at (q ∷ qs) (suc k) p e = ap (λ b. (q == p) || b) (has-at qs k p e) ∙ or-true (q == p)

-- a place that is there once stands at one number
pub once-at : (ps : List ℕ) → EachOnce ps → (j k p : ℕ) → slice_get ps j ≡ Some p → slice_get ps k ≡ Some p → j ≡ k
once-at [] once j k p at there = absurd cc
once-at (q ∷ qs) once zero zero p at there = refl
once-at (q ∷ qs) once zero (suc k) p at there =
    false_true (sym once.0 ∙ ap (has qs) (same_Some q p at) ∙ has-at qs k p there)
once-at (q ∷ qs) once (suc j) zero p at there =
    false_true (sym once.0 ∙ ap (has qs) (same_Some q p there) ∙ has-at qs j p at)
once-at (q ∷ qs) once (suc j) (suc k) p at there = ap suc (once-at qs once.1 j k p at there)
