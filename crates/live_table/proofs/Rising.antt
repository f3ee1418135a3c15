-- Places that increase.
use Rattle.std.proofs.Common.{◌≡◌, ◌⊎◌, ℕ, zero, suc, ◌<◌, List, [], ◌∷◌, ◌++◌, length, slice_get, Option, Some, None, inl, inr, ⊎_elim, refl, sym, ap, subst, arith}
use Rattle.std.proofs.lemmas.List.{append-nil}
use Rattle.std.proofs.lemmas.Option.{same_Some, slice_get_within}
use Rattle.ft_base.specs.declared.item.Item.{Item}
use Rattle.ft_base.specs.declared.item.Stamped.{Stamped}
use Rattle.ft_hist.specs.Placing.{AreCounted}
use Rattle.word_map.specs.Contents.{low}
use Rattle.word_map.specs.Ops.{WordOp, Load, Store, Mark}
use Rattle.control_core.specs.Steps.{marks_in as control_marks_in}
use Rattle.cpu_core.specs.CpuSteps.{marks_in}
use Rattle.live_table.specs.Seats.{IsRising}
use Rattle.live_table.proofs.Recording.{stamp}

-- an element of a list and one more is the new one, or one of the others
pub get-more : {A : Type 0} (xs : List A) (a b : A) (k : ℕ) → slice_get (xs ++ a ∷ []) k ≡ Some b → (slice_get xs k ≡ Some b) ⊎ ((k ≡ length xs) × (a ≡ b))
get-more [] a b zero e = inr (refl, same_Some a b e)
get-more [] a b (suc k) e = absurd (cc)
get-more (x ∷ xs) a b zero e = inl e
get-more (x ∷ xs) a b (suc k) e = ⊎_elim (λ t. inl t) (λ t. inr (ap suc t.0, t.1)) (get-more xs a b k e)

counted-at : (p : ℕ) (items : List Stamped) (k : ℕ) (x : Stamped) → AreCounted p items → slice_get items k ≡ Some x → x.place < p
counted-at p [] k x h e = absurd (cc)
counted-at p (y ∷ ys) zero x h e = subst (λ (z : Stamped). z.place < p) (same_Some y x e) h.0
counted-at p (y ∷ ys) (suc k) x h e = counted-at p ys k x h.1 e

rising-one : (items : List Stamped) (x : Stamped) → IsRising items → AreCounted x.place items → IsRising (items ++ x ∷ [])
rising-one items x rising before j k y z lt at at2 =
    ⊎_elim
    (λ (last : slice_get items k ≡ Some z).
    ⊎_elim
    (λ (first : slice_get items j ≡ Some y). rising j k y z lt first last)
    (λ (first : (j ≡ length items) × (x ≡ y)). absurd (let w = slice_get_within items k z last in let e = first.0 in omega (arith, w, e, lt)))
    (get-more items x y j at))
    (λ (last : (k ≡ length items) × (x ≡ z)).
    ⊎_elim
    (λ (first : slice_get items j ≡ Some y). subst (λ (u : Stamped). y.place < u.place) last.1 (counted-at x.place items j y before first))
    (λ (first : (j ≡ length items) × (x ≡ y)). absurd (let e = first.0 in let f = last.0 in omega (arith, e, f, lt)))
    (get-more items x y j at))
    (get-more items x z k at2)

-- the place of a mark is after those of the items
abbrev pub IsAfter : List Stamped → Option WordOp → ℕ → Type 0
IsAfter items op v = (item : Item) → op ≡ Some (Mark item) → AreCounted (low v) items

-- they increase after an operation of a CPU, and of control
pub rising-more : (items : List Stamped) (op : Option WordOp) (v : ℕ) → IsRising items → IsAfter items op v → IsRising (items ++ marks_in op v)
rising-more items None v r after = subst IsRising (sym (append-nil items)) r
rising-more items (Some (Load w)) v r after = subst IsRising (sym (append-nil items)) r
rising-more items (Some (Store w x)) v r after = subst IsRising (sym (append-nil items)) r
rising-more items (Some (Mark item)) v r after = rising-one items (stamp v item) r (after item refl)

pub control-rising-more : (items : List Stamped) (op : Option WordOp) (v : ℕ) → IsRising items → IsAfter items op v
    → IsRising (items ++ control_marks_in op v)
control-rising-more items None v r after = subst IsRising (sym (append-nil items)) r
control-rising-more items (Some (Load w)) v r after = subst IsRising (sym (append-nil items)) r
control-rising-more items (Some (Store w x)) v r after = subst IsRising (sym (append-nil items)) r
control-rising-more items (Some (Mark item)) v r after = rising-one items (stamp v item) r (after item refl)
