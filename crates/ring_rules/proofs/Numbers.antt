-- Numbers: one more hit, and none.
use Rattle.std.proofs.Common.{◌≡◌, ◌⊎◌, ℕ, zero, suc, ◌+◌, ◌<◌, ◌≤◌, Bool, true, false, [], inl, inr, refl, arith, replicate}
use Rattle.std.specs.Prelude.{if◌then◌else◌, nat_lt, min, slice_index, Option, Some, None}
use Rattle.std.proofs.lemmas.Bool.Decides.{nat_tests}
use Rattle.ring_rules.specs.Hits.{fires, quota}
use Rattle.ring_rules.specs.Legal.{fired_at}

-- 1 for true
abbrev pub num : Bool → ℕ
num b = if b then 1 else 0

pub lt-or-le : (m n : ℕ) → (m < n) ⊎ (n ≤ m)
lt-or-le m n = by (nat_lt m n) refl
  where
    by : (b : Bool) → nat_lt m n ≡ b → (m < n) ⊎ (n ≤ m)
    by true e = inl (grind (arith, nat_tests))
    by false e = inr (grind (arith, nat_tests))

pub plus-one : (n : ℕ) → suc n ≡ n + num true
plus-one n = let z : num true ≡ 1 = refl in omega (arith, z)

pub plus-none : (n : ℕ) → n ≡ n + num false
plus-none n = let z : num false ≡ 0 = refl in omega (arith, z)

pub quota-next : (limit : Option ℕ) (n : ℕ) → quota limit (suc n) ≡ quota limit n + num (fires limit n)
quota-next None n = plus-one n
quota-next (Some most) n = by (nat_lt n most) refl
  where
    by : (b : Bool) → nat_lt n most ≡ b → min most (suc n) ≡ min most n + num b
    by true e = (let z : num true ≡ 1 = refl in let a : n < most = grind (arith, nat_tests) in omega (arith, z, a))
    by false e = (let z : num false ≡ 0 = refl in let a : most ≤ n = grind (arith, nat_tests) in omega (arith, z, a))

pub no-quota : (limit : Option ℕ) → quota limit 0 ≡ 0
no-quota None = refl
no-quota (Some most) = omega arith

-- lists of nothing have nothing
pub at-zero : (m i : ℕ) → ◌≡◌ {A = ℕ} (slice_index (replicate m 0) i) 0
at-zero zero i = refl
at-zero (suc m) zero = refl
at-zero (suc m) (suc i) = at-zero m i

pub at-none : (m i : ℕ) → fired_at (replicate m []) i ≡ []
at-none zero i = refl
at-none (suc m) zero = refl
at-none (suc m) (suc i) = at-none m i
