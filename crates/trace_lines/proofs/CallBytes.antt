-- The text of a call in 16 bytes.
use Rattle.std.proofs.Common.{◌≡◌, ℕ, ◌+◌, ◌-◌, ◌<◌, ◌≤◌, ◌^◌, List, ◌∷◌, ◌++◌, length, take, drop, set, ap, ◌∙◌, arith, length-append}
use Rattle.std.specs.Fmt.{decimal}
use Rattle.std.specs.List.{copy_within}
use Rattle.std.proofs.lemmas.Fmt.{length-decimal-le}
use Rattle.std.proofs.lemmas.List.{drop-set, take_all}
use Rattle.std.proofs.lemmas.List.Edits.{take-paste}

-- a number below a power of ten has at most so many digits
pub digits-few : (k n m : ℕ) → m ≡ n → 0 < k → n < 10 ^ k → n < 2 ^ 64 → length (decimal m) ≤ k
digits-few k n m is some few small = rw is (length-decimal-le k n some few small)

-- a number that ends with the bytes, a dot before it, and a number before that, copied to the front
pub call-copied : (pid n dot start : ℕ) (first third : List ℕ) → length first ≡ 16 → 1 ≤ dot
    → dot + length (decimal n) ≡ 16 → drop dot first ≡ decimal n
    → start + length (decimal pid) ≡ dot - 1 → drop start third ≡ decimal pid ++ drop (dot - 1) (set first (dot - 1) 46)
    → take (16 - start) (copy_within third start 16 0) ≡ decimal pid ++ 46 ∷ decimal n
call-copied pid n dot start first third f some ends number begins task =
    let at : dot - 1 + 1 ≡ dot = omega (arith, some) in
    let before : dot - 1 < length first = omega (arith, f, some, ends) in
    let dotted : drop (dot - 1) (set first (dot - 1) 46) ≡ 46 ∷ decimal n =
    drop-set first (dot - 1) 46 before ∙ ap (λ (xs : List ℕ). 46 ∷ xs) (ap (λ (i : ℕ). drop i first) at ∙ number) in
    let text : drop start third ≡ decimal pid ++ 46 ∷ decimal n = task ∙ ap (λ (xs : List ℕ). decimal pid ++ xs) dotted in
    let sum : length (decimal pid) + length (46 ∷ decimal n) ≡ 16 - start = omega (arith, some, ends, begins) in
    let long : length (drop start third) ≡ 16 - start =
    ap (λ (xs : List ℕ). length xs) text ∙ length-append (decimal pid) (46 ∷ decimal n) ∙ sum in
    let none : 16 - start ≡ 0 + (16 - start) = omega arith in
    ap (λ (i : ℕ). take i (copy_within third start 16 0)) none
    ∙ take-paste third 0 (drop start third) (16 - start) (omega arith) (omega (arith, long)) ∙ take_all (16 - start) (drop start third) (omega (arith, long)) ∙ text
