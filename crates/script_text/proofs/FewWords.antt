-- The first word of a line, and the words after it.
use Rattle.std.proofs.Common.{◌≡◌, ℕ, zero, suc, ◌==◌, ◌<◌, ◌≤◌, ◌+◌, arith, not, Bool, true, false, cond, List, [], ◌∷◌, ◌++◌, append_assoc, length, map, set, take, drop, filter, position, get_or, Some, None, refl, sym, ap, ◌∙◌, subst, true≢false}
use Rattle.std.specs.List.{slice_split, position_or_len, after_first}
use Rattle.std.proofs.lemmas.List.{drop_all, drop_more, map-append, take_more_set}
use Rattle.std.proofs.lemmas.List.Splits.{slice_split-cons_yes, slice_split_first, slice_split_none}
use Rattle.std.proofs.lemmas.List.Sums.{fails_before_first, passes_at_first}
use Rattle.std.proofs.Math.Dec.{eqb-suc-zero}
use Rattle.ft_base.proofs.Small.{and_both}
use Rattle.script_text.specs.Lines.{Word, is_blank, is_plain, words_of}
use Rattle.script_text.proofs.LineLemmas.{found, not_found}

-- a byte of a word
abbrev pub is_in_word : ℕ → Bool
is_in_word b = not (is_blank b)

-- the parts that aren't empty
abbrev pub full : List Word → List Word
full parts = filter (λ word. not (length word == 0)) parts

-- a blank is before a word
pub blank-first : (b : ℕ) (rest : List ℕ) → is_blank b ≡ true → words_of (b ∷ rest) ≡ words_of rest
unfolding words_of
blank-first b rest is = ap full (slice_split-cons_yes is_blank b rest is)

-- so are those before its first byte
pub blanks-first : (line : List ℕ) → words_of (drop (position_or_len is_in_word line) line) ≡ words_of line
blanks-first [] = refl
blanks-first (b ∷ rest) = by (is_blank b) refl (blanks-first rest)
  where
    by : (blank : Bool) → is_blank b ≡ blank → words_of (drop (position_or_len is_in_word rest) rest) ≡ words_of rest
        → words_of (drop (cond (not (not blank)) (1 + position_or_len is_in_word rest) 0) (b ∷ rest)) ≡ words_of (b ∷ rest)
    by true is e =
        let one : 1 + position_or_len is_in_word rest ≡ suc (position_or_len is_in_word rest) = omega arith in
        ap (λ n. words_of (drop n (b ∷ rest))) one ∙ e ∙ sym (blank-first b rest is)
    by false is e = refl

-- an empty line has no words
words_of-nil : words_of [] ≡ []
unfolding words_of
words_of-nil = refl

-- a word that isn't empty stays
full-first : (word : Word) (parts : List Word) → 0 < length word → full (word ∷ parts) ≡ word ∷ full parts
full-first [] parts some = absurd (omega (arith, some))
full-first (b ∷ word) parts some = rw (eqb-suc-zero (length word)) refl

-- so many of the first bytes are some
long-take : (n : ℕ) (line : List ℕ) → 0 < n → 0 < length line → 0 < length (take n line)
long-take zero line more some = absurd (omega (arith, more))
long-take (suc n) [] more some = absurd (omega (arith, some))
long-take (suc n) (b ∷ line) more some = omega arith

-- what comes after a place is plain
pub plain-drop : (line : List ℕ) (n : ℕ) → is_plain line ≡ true → is_plain (drop n line) ≡ true
plain-drop line zero plain = plain
plain-drop [] (suc n) plain = refl
plain-drop (b ∷ rest) (suc n) plain = plain-drop rest n (and_both _ _ plain).1

-- no word begins
pub no-word : (line : List ℕ) → position is_in_word line ≡ None → words_of line ≡ []
no-word line none =
    sym (blanks-first line)
    ∙ ap words_of (drop_all (position_or_len is_in_word line) line (not_found is_in_word line none))
    ∙ words_of-nil

-- a word begins here, and doesn't end here
module _ (line : List ℕ) (i : ℕ) (at : position is_in_word line ≡ Some i) where
  pub word-starts : words_of (drop i line) ≡ words_of line
  word-starts = subst (λ n. words_of (drop n line) ≡ words_of line) (sym (found is_in_word line i at).1) (blanks-first line)

  first : ℕ
  first = get_or line (position_or_len is_in_word line) 0

  pub word-some : (e : ℕ) → position is_blank (drop i line) ≡ Some e → 0 < e
  unfolding first
  word-some e ends =
      let start = found is_in_word line i at in
      let rest : List ℕ = drop (position_or_len is_in_word line + 1) line in
      let cut : drop i line ≡ first ∷ rest = ap (λ n. drop n line) start.1 ∙ drop_more line (position_or_len is_in_word line) 0 start.0 in
      let here : is_blank first ≡ false = not-true (is_blank first) (passes_at_first is_in_word line 0 start.0) in
      let end = found is_blank (first ∷ rest) e (ap (position is_blank) (sym cut) ∙ ends) in
      let long : position_or_len is_blank (first ∷ rest) ≡ 1 + position_or_len is_blank rest =
      ap (λ b. cond (not b) (1 + position_or_len is_blank rest) 0) here in
      omega (arith, end.1, long)
    where
      not-true : (b : Bool) → not b ≡ true → b ≡ false
      not-true false e = refl
      not-true true e = absurd (true≢false (sym e))

module _ (line : List ℕ) where
  -- the first word ends here
  pub word-ends : (e : ℕ) → 0 < e → position is_blank line ≡ Some e → words_of line ≡ take e line ∷ words_of (drop e line)
  unfolding words_of
  word-ends e some at =
      let end = found is_blank line e at in
      let p : ℕ = position_or_len is_blank line in
      let rest : List ℕ = after_first is_blank line in
      let long : 0 < length (take p line) = long-take p line (omega (arith, end.1, some)) (omega (arith, end.0)) in
      let cut : words_of (drop p line) ≡ words_of rest = ap words_of (drop_more line p 0 end.0) ∙ blank-first (get_or line p 0) rest (passes_at_first is_blank line 0 end.0) in
      let whole : words_of line ≡ take p line ∷ words_of rest = ap full (slice_split_first is_blank line 0 end.0) ∙ full-first (take p line) (slice_split is_blank rest) long in
      subst (λ n. words_of line ≡ take n line ∷ words_of (drop n line)) (sym end.1) (whole ∙ ap (λ ws. take p line ∷ ws) (sym cut))

  -- or is the last
  pub word-last : 0 < length line → position is_blank line ≡ None → words_of line ≡ line ∷ words_of []
  unfolding words_of
  word-last some none =
      let past : length line ≤ position_or_len is_blank line = not_found is_blank line none in
      ap full (slice_split_none is_blank line (λ k d h. fails_before_first is_blank line k d (omega arith))) ∙ full-first line [] some

-- one more word is found, and put in its place
pub words-more : {X : Type 0} (f : X → Word) (words : List X) (n : ℕ) (word : X) (rest after all : List Word) → n < length words → rest ≡ f word ∷ after
    → map f (take n words) ++ rest ≡ all → map f (take (n + 1) (set words n word)) ++ after ≡ all
words-more f words n word rest after all lt first so =
    ap (λ ws. map f ws ++ after) (take_more_set words n word lt)
    ∙ ap (λ ws. ws ++ after) (map-append f (take n words) (word ∷ []))
    ∙ append_assoc (map f (take n words)) (f word ∷ []) after
    ∙ ap (λ ws. map f (take n words) ++ ws) (sym first)
    ∙ so
