-- Numbers in columns.
use Rattle.std.proofs.Common.{◌≡◌, ℕ, ◌+◌, ◌*◌, ◌-◌, ◌≤◌, List, ◌++◌, codes, length, take, ap, ◌∙◌, arith}
use Rattle.std.proofs.lemmas.List.{take-replicate, replicate-append-replicate}
use Rattle.trace_views.specs.Words.{spaces, right_in, zeros_in}

-- spaces and a number
pub right-said : (width n : ℕ) (number digits : List ℕ) → n ≡ width - length number → number ≡ digits → width ≤ 8 → take n (spaces 8) ++ number ≡ right_in width digits
right-said width n number digits left is short =
    rw (left, is) (ap (λ (before : List ℕ). before ++ digits) (take-replicate (width - length digits) 8 32 (omega (arith, short))))

-- zeros and a number
pub zeros-said : (n : ℕ) (number digits : List ℕ) → n ≡ 3 - length number → number ≡ digits → take n (codes "000") ++ number ≡ zeros_in 3 digits
zeros-said n number digits left is =
    rw (left, is) (ap (λ (before : List ℕ). before ++ digits) (take-replicate (3 - length digits) 3 48 (omega arith)))

-- two more spaces
pub spaces-more : (n : ℕ) → spaces (2 * n) ++ codes "  " ≡ spaces (2 * (n + 1))
spaces-more n = replicate-append-replicate (2 * n) 2 32 ∙ ap spaces (let e : 2 * n + 2 ≡ 2 * (n + 1) = omega arith in e)
