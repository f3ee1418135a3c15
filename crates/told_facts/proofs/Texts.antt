-- Texts of bytes, words and elements, one after the other.
use Rattle.std.proofs.Common.{cond, true≢false, ◌≡◌, ℕ, suc, ◌+◌, ◌-◌, ◌<◌, ◌≤◌, Bool, true, false, List, [], ◌∷◌, ◌++◌, length, drop, get_or, map, refl, sym, ap, ◌∙◌, append_assoc, append-nil, subst, arith}
use Rattle.std.proofs.Math.Dec.{eqb-suc-zero}
use Rattle.std.specs.Prelude.{Option, Some, ◌&&◌, ◌||◌, ◌==◌, if◌then◌else◌, is_none, option_map}
use Rattle.std.proofs.lemmas.List.{drop_all, drop_more}
use Rattle.std.specs.List.{find, list_any}
use Rattle.script_text.specs.Lines.{lines_of}
use Rattle.script_text.proofs.LineLemmas.{lines_of-nil}
use Rattle.trace_views.specs.Words.{Word}
use Rattle.told_facts.specs.Values.{escaped, escaped_byte, part, parts, space, words_after}

-- the element at a place, and those after it
pub here : {A : Type 0} (xs : List A) (i : ℕ) (x : A) → i < length xs → x ≡ get_or xs i x → drop i xs ≡ x ∷ drop (i + 1) xs
here xs i x within is = drop_more xs i x within ∙ ap (λ (y : _). y ∷ drop (i + 1) xs) (sym is)

module _ (bytes : List ℕ) (i : ℕ) (t all : List ℕ) where
  -- the next byte
  pub bytes-more : i < length bytes → t ++ escaped (drop i bytes) ≡ all → (t ++ escaped_byte (get_or bytes i 0)) ++ escaped (drop (i + 1) bytes) ≡ all
  bytes-more within so_far =
      let a : t ++ (escaped_byte (get_or bytes i 0) ++ escaped (drop (i + 1) bytes)) ≡ all = rw (drop_more bytes i 0 within) at so_far in
      append_assoc t (escaped_byte (get_or bytes i 0)) (escaped (drop (i + 1) bytes)) ∙ a

  -- all bytes
  pub bytes-all : length bytes ≤ i → t ++ escaped (drop i bytes) ≡ all → t ≡ all
  bytes-all past so_far = let a : t ++ [] ≡ all = rw (drop_all i bytes past) at so_far in sym (append-nil t) ∙ a

module _ {A : Type 0} (read : A → Word) (words : List A) (i : ℕ) (t all : List ℕ) (first : Bool) where
  -- the next word
  pub words-more : (d : A) → i < length words → t ++ words_after first (map read (drop i words)) ≡ all
      → (t ++ (space first ++ escaped (read (get_or words i d)))) ++ words_after false (map read (drop (i + 1) words)) ≡ all
  words-more d within so_far =
      let w = get_or words i d in
      let rest = words_after false (map read (drop (i + 1) words)) in
      let a : t ++ (space first ++ (escaped (read w) ++ rest)) ≡ all = rw (drop_more words i d within) at so_far in
      append_assoc t (space first ++ escaped (read w)) rest ∙ ap (λ (u : List ℕ). t ++ u) (append_assoc (space first) (escaped (read w)) rest) ∙ a

  -- all words
  pub words-all : length words ≤ i → t ++ words_after first (map read (drop i words)) ≡ all → t ≡ all
  words-all past so_far = let a : t ++ [] ≡ all = rw (drop_all i words past) at so_far in sym (append-nil t) ∙ a

-- the numbers from 0 on are all of them
pub parts-none : (say : ℕ → Option (List ℕ)) (n : ℕ) → parts say true 0 (n - 0) ≡ parts say true 0 n
parts-none say n = let e : n - 0 ≡ n = omega arith in ap (parts say true 0) e

module _ (say : ℕ → Option (List ℕ)) (f n : ℕ) (t all : List ℕ) (first : Bool) where
  -- the next number
  pub parts-more : f < n → t ++ parts say first f (n - f) ≡ all
      → (t ++ part first (say f)) ++ parts say (first && is_none (say f)) (f + 1) (n - (f + 1)) ≡ all
  parts-more within so_far =
      let e : n - f ≡ suc (n - (f + 1)) = omega (arith, within) in
      let s : suc f ≡ f + 1 = omega arith in
      let a : t ++ (part first (say f) ++ parts say (first && is_none (say f)) (suc f) (n - (f + 1))) ≡ all = rw e at so_far in
      append_assoc t (part first (say f)) (parts say (first && is_none (say f)) (f + 1) (n - (f + 1)))
      ∙ ap (λ (g : ℕ). t ++ (part first (say f) ++ parts say (first && is_none (say f)) g (n - (f + 1)))) (sym s) ∙ a

  -- all numbers
  pub parts-all : n ≤ f → t ++ parts say first f (n - f) ≡ all → t ≡ all
  parts-all past so_far =
      let e : n - f ≡ 0 = omega (arith, past) in
      let a : t ++ [] ≡ all = rw e at so_far in sym (append-nil t) ∙ a

-- no line is left of an empty text
pub no-lines : (text : List ℕ) → true ≡ (length text == 0) → lines_of text ≡ []
no-lines [] e = lines_of-nil
no-lines (b ∷ rest) e = absurd (true≢false (e ∙ eqb-suc-zero (length rest)))

-- a test of what is made of the elements
pub any-map : {A B : Type 0} (p : B → Bool) (f : A → B) (xs : List A) → list_any (λ x. p (f x)) xs ≡ list_any p (map f xs)
any-map p f [] = refl
any-map p f (x ∷ xs) = ap (λ b. p (f x) || b) (any-map p f xs)

-- what is found among what is made of the elements
pub find-map : {A B : Type 0} (p : B → Bool) (f : A → B) (xs : List A) → option_map f (find (λ x. p (f x)) xs) ≡ find p (map f xs)
find-map p f [] = refl
find-map p f (x ∷ xs) =
    elim (p (f x)) as (λ b. option_map f (cond b (Some x) (find (λ y. p (f y)) xs)) ≡ cond b (Some (f x)) (find p (map f xs))) [
      | true ↦ refl
      | false ↦ find-map p f xs
    ]

-- all but the first of what is made of the elements
pub map-later : {A B : Type 0} (f : A → B) (xs : List A) → map f (drop 1 xs) ≡ drop 1 (map f xs)
map-later f [] = refl
map-later f (x ∷ xs) = refl
