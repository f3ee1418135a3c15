-- Changes in order.
use Rattle.std.proofs.Common.{◌≡◌, ℕ, ◌+◌, ◌-◌, ◌≤◌, ◌<◌, List, length, take, get_or, sym, ap, ◌∙◌, subst, arith}
use Rattle.std.specs.List.Sorted.{IsNonDecreasingBy}
use Rattle.std.proofs.lemmas.List.{take_more, length-take-le, get_or-take, get_or_default}
use Rattle.std.proofs.lemmas.List.Sorted.{IsNonDecreasingBy-push}
use Rattle.module_coverage.specs.declared.change.Change.{Change}

-- one more that comes no earlier than the one above it
pub order-more : (xs : List Change) (i : ℕ) (d : Change) → 0 < i → i < length xs → (get_or xs (i - 1) d).at ≤ (get_or xs i d).at
    → IsNonDecreasingBy (λ (x : Change). x.at) (take i xs) → IsNonDecreasingBy (λ (x : Change). x.at) (take (i + 1) xs)
order-more xs i d some inside up before =
    subst (λ (ys : List Change). IsNonDecreasingBy (λ (x : Change). x.at) ys) (sym (take_more xs i d inside))
    (IsNonDecreasingBy-push (λ (x : Change). x.at) (take i xs) (get_or xs i d) before (λ e _.
    let long : length (take i xs) ≡ i = length-take-le i xs (omega (arith, inside)) in
    let last : get_or (take i xs) (length (take i xs) - 1) e ≡ get_or xs (i - 1) d =
    ap (λ (n : ℕ). get_or (take i xs) (n - 1) e) long ∙ get_or-take i xs (i - 1) e (omega (arith, some)) ∙ get_or_default xs (i - 1) e d (omega (arith, some, inside)) in
    subst (λ (x : Change). x.at ≤ (get_or xs i d).at) (sym last) up))
