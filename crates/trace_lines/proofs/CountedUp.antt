-- The digits of a number that is counted up.
use Rattle.std.proofs.Common.{◌≡◌, ℕ, zero, suc, ◌+◌, ◌-◌, ◌/◌, ◌%◌, ◌^◌, ◌<◌, ◌≤◌, List, [], ◌∷◌, ◌++◌, length, take, drop, set, get_or, ⊎_elim, refl, sym, ap, ap₂, ◌∙◌, arith, length-append, take-suc, take-suc-set}
use Rattle.std.specs.Fmt.{decimal}
use Rattle.std.proofs.lemmas.Bool.{cases_lt}
use Rattle.std.proofs.lemmas.Fmt.{decimal_digit, decimal_step, decimal_nonempty}

-- equal lists have the same end, and the same before it
ends-alike : (xs ys : List ℕ) (a b : ℕ) → xs ++ (a ∷ []) ≡ ys ++ (b ∷ []) → (xs ≡ ys) × (a ≡ b)
ends-alike [] [] a b e = (refl, ap (λ (l : List ℕ). get_or l 0 0) e)
ends-alike [] (y ∷ ys) a b e = absurd (omega (arith, ap (λ (l : List ℕ). length l) e, length-append ys (b ∷ [])))
ends-alike (x ∷ xs) [] a b e = absurd (omega (arith, ap (λ (l : List ℕ). length l) e, length-append xs (a ∷ [])))
ends-alike (x ∷ xs) (y ∷ ys) a b e =
    let rest = ends-alike xs ys a b (ap (λ (l : List ℕ). drop 1 l) e) in
    (ap₂ (λ (z : ℕ) (zs : List ℕ). z ∷ zs) (ap (λ (l : List ℕ). get_or l 0 0) e) rest.0, rest.1)

-- the next number: the last digit, which isn't 9, is one more
one-more : (n : ℕ) → n + 1 < 2 ^ 32 → (front : List ℕ) (digit : ℕ) → decimal n ≡ front ++ (digit ∷ []) → digit < 57 → decimal (n + 1) ≡ front ++ ((digit + 1) ∷ [])
one-more n small front digit is low = ⊎_elim
    (λ (short : n < 10). let e = ends-alike [] front (48 + n) digit (sym (decimal_digit n short) ∙ is) in
    decimal_digit (n + 1) (omega (arith, e.1, low)) ∙ ap₂ (λ (f : List ℕ) (d : ℕ). f ++ (d ∷ [])) e.0 (omega (arith, e.1)))
    (λ (long : 10 ≤ n). let e = ends-alike (decimal (n / 10)) front (48 + n % 10) digit (sym (decimal_step n long (omega (arith, small))) ∙ is) in
    let tens : (n + 1) / 10 ≡ n / 10 = omega (arith, e.1, low) in
    decimal_step (n + 1) (omega (arith, long)) (omega (arith, small))
    ∙ ap₂ (λ (f : List ℕ) (d : ℕ). f ++ (d ∷ [])) (ap (λ (m : ℕ). decimal m) tens ∙ e.0) (omega (arith, e.1, low)))
    (cases_lt n 10)

-- a number has a digit
pub has-digit : (n len : ℕ) (bytes : List ℕ) → n < 2 ^ 32 → take len bytes ≡ decimal n → 1 ≤ len
has-digit n zero bytes small is = absurd (omega (arith, decimal_nonempty n (omega (arith, small)), ap (λ (l : List ℕ). length l) is))
has-digit n (suc i) bytes small is = omega arith

-- the digits of the next number
pub counted-up : (n len : ℕ) (bytes : List ℕ) → n + 1 < 2 ^ 32 → len ≤ length bytes → take len bytes ≡ decimal n → get_or bytes (len - 1) 0 < 57
    → take len (set bytes (len - 1) (get_or bytes (len - 1) 0 + 1)) ≡ decimal (n + 1)
counted-up n zero bytes small fits is low = absurd (omega (arith, has-digit n 0 bytes (omega (arith, small)) is))
counted-up n (suc i) bytes small fits is low =
    let at : suc i - 1 ≡ i = omega arith in
    rw at (take-suc-set bytes i (get_or bytes i 0 + 1) (omega (arith, fits))
    ∙ sym (one-more n small (take i bytes) (get_or bytes i 0) (sym is ∙ take-suc bytes i 0 (omega (arith, fits))) (rw at at low)))
