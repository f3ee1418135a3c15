-- Where a text is cut: at the first byte of a kind.
use Rattle.std.proofs.Common.{cond, ◌≡◌, ℕ, suc, ◌+◌, Bool, true, false, not, ◌==◌, List, [], ◌∷◌, ◌++◌, length, take, drop, position, Some, None, refl, ap, ◌∙◌, rules, arith, length-append}
use Rattle.std.proofs.lemmas.Bool.{lt-ltb}
use Rattle.std.specs.List.{position_or_len}
use Rattle.ft_base.proofs.Small.{or-false_both}
use Rattle.trace_lines.proofs.LogWords.{Free, upto, beyond, upto-at, beyond-at}
use Rattle.log_reader.specs.Reading.{before, after}

one-more : (n : ℕ) → 1 + n ≡ suc n
one-more n = omega arith

one-more_then : (n : ℕ) → 1 + n + 1 ≡ suc (n + 1)
one-more_then n = omega arith

before-is : (b : ℕ) (xs : List ℕ) → before b xs ≡ upto b xs
unfolding before
before-is b [] = refl
before-is b (x ∷ xs) = by (x == b) refl (before-is b xs)
  where
    by : (t : Bool) → (x == b) ≡ t → before b xs ≡ upto b xs
        → take (cond (not t) (1 + position_or_len (λ c. c == b) xs) 0) (x ∷ xs) ≡ cond t [] (x ∷ upto b xs)
    by true e more = refl
    by false e more = ap (λ (n : ℕ). take n (x ∷ xs)) (one-more (position_or_len (λ c. c == b) xs)) ∙ ap (λ (ys : List ℕ). x ∷ ys) more

after-is : (b : ℕ) (xs : List ℕ) → after b xs ≡ beyond b xs
unfolding after
after-is b [] = refl
after-is b (x ∷ xs) = by (x == b) refl (after-is b xs)
  where
    by : (t : Bool) → (x == b) ≡ t → after b xs ≡ beyond b xs
        → drop (cond (not t) (1 + position_or_len (λ c. c == b) xs) 0 + 1) (x ∷ xs) ≡ cond t xs (beyond b xs)
    by true e more = refl
    by false e more = ap (λ (n : ℕ). drop n (x ∷ xs)) (one-more_then (position_or_len (λ c. c == b) xs)) ∙ more

-- up to the byte, and after it
pub before-at : (b : ℕ) (xs ys : List ℕ) → Free b xs → before b (xs ++ b ∷ ys) ≡ xs
before-at b xs ys h = before-is b (xs ++ b ∷ ys) ∙ upto-at b xs ys h

pub after-at : (b : ℕ) (xs ys : List ℕ) → Free b xs → after b (xs ++ b ∷ ys) ≡ ys
after-at b xs ys h = after-is b (xs ++ b ∷ ys) ∙ beyond-at b xs ys h

-- where no byte is one
upto-all : (b : ℕ) (xs : List ℕ) → Free b xs → upto b xs ≡ xs
upto-all b [] h = refl
upto-all b (x ∷ xs) h = let both = or-false_both (x == b) _ h in rw both.0 (ap (λ (ys : List ℕ). x ∷ ys) (upto-all b xs both.1))

beyond-all : (b : ℕ) (xs : List ℕ) → Free b xs → beyond b xs ≡ []
beyond-all b [] h = refl
beyond-all b (x ∷ xs) h = let both = or-false_both (x == b) _ h in rw both.0 (beyond-all b xs both.1)

pub before-all : (b : ℕ) (xs : List ℕ) → Free b xs → before b xs ≡ xs
before-all b xs h = before-is b xs ∙ upto-all b xs h

pub after-all : (b : ℕ) (xs : List ℕ) → Free b xs → after b xs ≡ []
after-all b xs h = after-is b xs ∙ beyond-all b xs h

-- the place of the byte
eqb-self : (n : ℕ) → (n == n) ≡ true
eqb-self n = search rules

place-at : (b : ℕ) (xs ys : List ℕ) → Free b xs → position_or_len (λ c. c == b) (xs ++ b ∷ ys) ≡ length xs
place-at b [] ys h = rw (eqb-self b) refl
place-at b (x ∷ xs) ys h = let both = or-false_both (x == b) _ h in rw both.0 (one-more (position_or_len (λ c. c == b) (xs ++ b ∷ ys)) ∙ ap (λ (n : ℕ). suc n) (place-at b xs ys both.1))

pub position-at : (b : ℕ) (xs ys : List ℕ) → Free b xs → position (λ c. c == b) (xs ++ b ∷ ys) ≡ Some (length xs)
position-at b xs ys h = rw (place-at b xs ys h) (ap (λ t. cond t (Some (length xs)) None) (lt-ltb (length xs) (length (xs ++ b ∷ ys)) (omega (arith, length-append xs (b ∷ ys)))))
