-- Lists whose elements differ: one more that a search doesn't find, and places that hold the same.
use Rattle.std.proofs.Common.{◌≡◌, ◌≢◌, ℕ, ◌<◌, ◌++◌, Bool, true, false, List, [], ◌∷◌, length, cond, get_or, position, AllPairs, Some, None, is_some, sym, ap, ◌∙◌, inl, inr, arith}
use Rattle.std.specs.List.{position_or_len}
use Rattle.std.proofs.lemmas.Bool.{cases_lt, lt-ltb}
use Rattle.std.proofs.lemmas.List.Sums.{fails_before_first}
use Rattle.std.proofs.lemmas.List.Quantifiers.{all_pairs_push}
use Rattle.ft_base.proofs.Small.{false_true}

-- the elements differ
abbrev pub Distinct : {X : Type 0} → List X → Type 0
Distinct xs = AllPairs (λ a b. a ≢ b) xs

module _ {X : Type 0} (xs : List X) where
  -- a search that finds nothing passes each element
  none-passes : (p : X → Bool) → is_some (position p xs) ≡ false → (k : ℕ) (d : X) → k < length xs → p (get_or xs k d) ≡ false
  none-passes p none k d within = elim (cases_lt (position_or_len p xs) (length xs)) [
    | inl h ↦ false_true (sym none ∙ ap (λ b. is_some (cond b (Some (position_or_len p xs)) None)) (lt-ltb _ _ h))
    | inr h ↦ fails_before_first p xs k d (omega (arith, h, within))
  ]

  -- so an element that a search doesn't find can be added
  pub distinct-push : (p : X → Bool) (x : X) → p x ≡ true → Distinct xs → is_some (position p xs) ≡ false → Distinct (xs ++ x ∷ [])
  distinct-push p x is h none = all_pairs_push (λ a b. a ≢ b) xs x h
      (λ k d within same. false_true (sym (none-passes p none k d within) ∙ ap p same ∙ is))

  -- one element stands at one place
  pub distinct-places : Distinct xs → (i j : ℕ) (d : X) → i < length xs → j < length xs → get_or xs i d ≡ get_or xs j d → i ≡ j
  distinct-places h i j d li lj same = elim (cases_lt i j) [
    | inl lt ↦ absurd (h i j d lt lj same)
    | inr le ↦ elim (cases_lt j i) [
      | inl lt ↦ absurd (h j i d lt li (sym same))
      | inr ge ↦ omega (arith, le, ge)
    ]
  ]
