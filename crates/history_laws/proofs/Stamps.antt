-- The stamps of a task's items never fall.
use Rattle.std.proofs.Common.{cond, ℕ, zero, suc, ◌<◌, ◌≤◌, true, false, List, [], ◌∷◌, ◌++◌, length, get_or, arith, AllPairs}
use Rattle.std.proofs.lemmas.List.Quantifiers.{all_pairs_push}
use Rattle.std.specs.List.{AllByRecursion as Each}
use Rattle.ft_base.specs.declared.item.Item.{Item}
use Rattle.ft_base.proofs.Small.{Each-snoc, Each-weaker}
use Rattle.ft_hist.specs.Past.{done, is_of}
use Rattle.ft_hist.proofs.WindowLaws.{done-more}
use Rattle.history_laws.specs.Grammar.{Stamped, at, items_of}

abbrev IsBy : ℕ → Stamped → Type 0
IsBy d x = x.returned ≤ d

-- no stamp is above the number of commands that have returned
stamps-below : (t : ℕ) (past : List Item) → Each (IsBy (done past)) (items_of t past)
stamps-below t [] = tt
stamps-below t (item ∷ past) =
    let more : done past ≤ done (item ∷ past) = done-more item past in
    let before = Each-weaker (IsBy (done past)) (IsBy (done (item ∷ past))) (items_of t past) (λ x le. omega (arith, le, more)) (stamps-below t past) in
    elim (is_of t item) as (λ b. Each (IsBy (done (item ∷ past))) (cond b (items_of t past ++ at (done past) item ∷ []) (items_of t past))) [
      | true ↦ Each-snoc (IsBy (done (item ∷ past))) (items_of t past) (at (done past) item) before more
      | false ↦ before
    ]

each-at : (P : Stamped → Type 0) (xs : List Stamped) (i : ℕ) (x : Stamped) → i < length xs → Each P xs → P (get_or xs i x)
each-at P [] i x lt h = absurd (omega (arith, lt))
each-at P (y ∷ xs) zero x lt h = h.0
each-at P (y ∷ xs) (suc i) x lt h = each-at P xs i x (omega (arith, lt)) h.1

abbrev IsNotAfter : Stamped → Stamped → Type 0
IsNotAfter x y = x.returned ≤ y.returned

pub never-fall : (t : ℕ) (past : List Item) → AllPairs (λ x y. x.returned ≤ y.returned) (items_of t past)
never-fall t [] = λ i j d less within. absurd (omega (arith, within))
never-fall t (item ∷ past) =
    elim (is_of t item) as (λ b. AllPairs IsNotAfter (cond b (items_of t past ++ at (done past) item ∷ []) (items_of t past))) [
      | true ↦ all_pairs_push IsNotAfter (items_of t past) (at (done past) item) (never-fall t past) (λ k d lt. each-at (IsBy (done past)) (items_of t past) k d lt (stamps-below t past))
      | false ↦ never-fall t past
    ]
