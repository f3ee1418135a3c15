-- The first line of a text.
use Rattle.std.proofs.Common.{◌≡◌, ℕ, ◌+◌, ◌<◌, ◌≤◌, ◌-◌, arith, inl, inr, true, false, Bool, cond, List, [], ◌∷◌, length, take, drop, position, Some, None, refl, ap, ◌∙◌, sym}
use Rattle.std.specs.List.{slice_split, position_or_len, after_first}
use Rattle.std.proofs.lemmas.List.Splits.{slice_split_first, slice_split_none, length-slice_split}
use Rattle.std.proofs.lemmas.List.Sums.{fails_before_first}
use Rattle.std.proofs.lemmas.Bool.{cases_lt, lt-ltb, le-ltb}
use Rattle.std.proofs.lemmas.List.{take_rest}
use Rattle.std.proofs.lemmas.Option.{none-some}
use Rattle.script_text.specs.Lines.{is_feed, lines_from, lines_of}

lines_from-more : (part : List ℕ) (parts : List (List ℕ)) → 0 < length parts → lines_from (part ∷ parts) ≡ record { bytes = part; ended = true } ∷ lines_from parts
lines_from-more part [] h = absurd (omega (arith, h))
lines_from-more part (next ∷ parts) h = refl

lines_from-last : (part : List ℕ) → 0 < length part → lines_from (part ∷ []) ≡ record { bytes = part; ended = false } ∷ []
lines_from-last [] h = absurd (omega (arith, h))
lines_from-last (b ∷ rest) h = grind arith

-- the place at which a search ends
module _ (p : ℕ → Bool) (xs : List ℕ) where
  pub found : (i : ℕ) → position p xs ≡ Some i → (position_or_len p xs < length xs) × (i ≡ position_or_len p xs)
  found i e = elim (cases_lt (position_or_len p xs) (length xs)) [
    | inl h ↦ let q : Some (position_or_len p xs) ≡ Some i = sym (ap (λ b. cond b (Some (position_or_len p xs)) None) (lt-ltb _ _ h)) ∙ e in (h, cc)
    | inr h ↦ absurd (none-some _ (sym (ap (λ b. cond b (Some (position_or_len p xs)) None) (le-ltb _ _ h)) ∙ e))
  ]

  pub not_found : position p xs ≡ None → length xs ≤ position_or_len p xs
  not_found e = elim (cases_lt (position_or_len p xs) (length xs)) [
    | inl h ↦ absurd (none-some _ (sym e ∙ ap (λ b. cond b (Some (position_or_len p xs)) None) (lt-ltb _ _ h)))
    | inr h ↦ h
  ]

module _ (text : List ℕ) where
  pub lines_of-found : (i : ℕ) → position is_feed text ≡ Some i → lines_of text ≡ record { bytes = take i text; ended = true } ∷ lines_of (take (length text - (i + 1)) (drop (i + 1) text))
  unfolding lines_of
  lines_of-found i e =
      let f = found is_feed text i e in
      let split = slice_split_first is_feed text 0 f.0 in
      let more : 0 < length (slice_split is_feed (after_first is_feed text)) = omega (arith, length-slice_split is_feed (after_first is_feed text)) in
      rw (take_rest text (i + 1), f.1) (ap lines_from split ∙ lines_from-more _ _ more)

  pub lines_of-not_found : 0 < length text → position is_feed text ≡ None → lines_of text ≡ record { bytes = text; ended = false } ∷ lines_of []
  unfolding lines_of
  lines_of-not_found some e =
      let n = not_found is_feed text e in
      ap lines_from (slice_split_none is_feed text (λ k d h. fails_before_first is_feed text k d (omega arith))) ∙ lines_from-last text some

pub lines_of-nil : lines_of [] ≡ []
unfolding lines_of
lines_of-nil = refl
