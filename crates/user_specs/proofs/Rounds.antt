-- With no more than 64 users, each round of the bound for at most two levels fits.
use Rattle.std.proofs.Common.{◌≡◌, ℕ, zero, suc, ◌*◌, ◌<◌, ◌≤◌, arith}
use Rattle.std.proofs.lemmas.Nat.{mul-le}
use Rattle.ft_base.specs.declared.limits.TheConstants.{USERS}
use Rattle.user_specs.specs.Bound.{nested_bound}

-- more users, of whom more have an act, have no smaller bound
nested-more : (users acting u a n : ℕ) → users ≤ u → acting ≤ a → nested_bound users acting n ≤ nested_bound u a n
nested-more users acting u a zero more most = omega arith
nested-more users acting u a (suc n) more most =
    let product = mul-le acting (nested_bound users acting n) a (nested_bound u a n) most (nested-more users acting u a n more most) in
    omega (arith, product)

-- the greatest bounds, which rise with the rounds
nested-most : (n : ℕ) → n < 4 → nested_bound USERS USERS n ≤ 19173956
nested-most zero lt = omega arith
nested-most (suc zero) lt = omega arith
nested-most (suc (suc zero)) lt = omega arith
nested-most (suc (suc (suc zero))) lt = omega arith
nested-most (suc (suc (suc (suc n)))) lt = absurd (omega (arith, lt))

-- what a round multiplies
pub round-most : (users acting bound n : ℕ) → bound ≡ nested_bound users acting n → users ≤ USERS → acting ≤ users → n < 4 → acting * bound ≤ 1227133184
round-most users acting bound n is few fewer lt =
    let one = nested-more users acting USERS USERS n few (omega (arith, few, fewer)) in
    let most = nested-most n lt in
    let product = mul-le acting bound 64 19173956 (omega (arith, few, fewer)) (omega (arith, is, one, most)) in
    omega (arith, product)
