-- The first byte of a line that isn't a blank tells whether the line is skipped.
use Rattle.std.proofs.Common.{◌≡◌, ℕ, ◌==◌, not, Bool, true, false, List, [], ◌∷◌, length, filter, Option, Some, None, refl, sym, ap, ◌∙◌, if◌then◌else◌}
use Rattle.std.specs.List.{slice_split, onto_first, find}
use Rattle.std.proofs.lemmas.List.Splits.{slice_split-cons_yes, slice_split-cons_no}
use Rattle.std.proofs.Math.Dec.{eqb-suc-zero}
use Rattle.script_text.specs.Lines.{Word, is_blank, words_of, is_skipped}

-- a line is skipped if this is its first byte that isn't a blank
abbrev pub is_skipped_at : Option ℕ → Bool
is_skipped_at None = true
is_skipped_at (Some b) = b == 35

-- the first of the parts that aren't empty begins with this byte
begins : (b : ℕ) (parts : List Word) → is_skipped (filter (λ word. not (length word == 0)) (onto_first b parts)) ≡ (b == 35)
begins b [] = refl
begins b (part ∷ parts) = rw (eqb-suc-zero (length part)) refl

pub is_skipped-words_of : (line : List ℕ) → is_skipped_at (find (λ b. not (is_blank b)) line) ≡ is_skipped (words_of line)
unfolding words_of
is_skipped-words_of [] = refl
is_skipped-words_of (b ∷ rest) = by_blank (is_blank b) refl (is_skipped-words_of rest)
  where
    by_blank : (blank : Bool) → is_blank b ≡ blank → is_skipped_at (find (λ c. not (is_blank c)) rest) ≡ is_skipped (words_of rest)
        → is_skipped_at (if not blank then Some b else find (λ c. not (is_blank c)) rest) ≡ is_skipped (words_of (b ∷ rest))
    by_blank true is e = e ∙ ap (λ parts. is_skipped (filter (λ word. not (length word == 0)) parts)) (sym (slice_split-cons_yes is_blank b rest is))
    by_blank false is e = sym (begins b (slice_split is_blank rest)) ∙ ap (λ parts. is_skipped (filter (λ word. not (length word == 0)) parts)) (sym (slice_split-cons_no is_blank b rest is))
