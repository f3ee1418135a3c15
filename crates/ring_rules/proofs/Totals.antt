-- Sums over CPUs, and a change of one CPU.
use Rattle.std.proofs.Common.{◌≡◌, ◌≢◌, ◌⊎◌, ℕ, zero, suc, ◌+◌, ◌*◌, ◌<◌, ◌≤◌, Bool, true, false, inl, inr, ⊎_elim, refl, sym, subst, arith}
use Rattle.std.specs.Prelude.{◌==◌}
use Rattle.std.proofs.lemmas.Bool.Decides.{nat_tests}
use Rattle.ring_rules.specs.RingInvariant.{total}

pub same-or : (m n : ℕ) → (m ≡ n) ⊎ (m ≢ n)
same-or m n = by (m == n) refl
  where
    by : (b : Bool) → (m == n) ≡ b → (m ≡ n) ⊎ (m ≢ n)
    by true e = inl (grind (arith, nat_tests))
    by false e = inr (λ q. absurd (grind (arith, nat_tests)))

pub total-same : (n : ℕ) (f g : ℕ → ℕ) → ((c : ℕ) → c < n → f c ≡ g c) → total n f ≡ total n g
total-same zero f g each = refl
total-same (suc n) f g each =
    let e = total-same n f g (λ c lt. each c (omega (arith, lt))) in
    let d = each n (omega arith) in
    omega (arith, e, d)

-- one CPU has k more
pub total-more : (n c k : ℕ) (f g : ℕ → ℕ) → c < n → g c ≡ f c + k → ((d : ℕ) → d ≢ c → g d ≡ f d) → total n g ≡ total n f + k
total-more zero c k f g lt own others = absurd (omega (arith, lt))
total-more (suc n) c k f g lt own others =
    ⊎_elim
    (λ (e : c ≡ n).
    let rest = total-same n g f (λ d small. others d (λ q. absurd (omega (arith, q, e, small)))) in
    let last : g n ≡ f n + k = subst (λ m. g m ≡ f m + k) e own in
    omega (arith, rest, last))
    (λ (ne : c ≢ n).
    let small : c < n = omega (arith, lt, ne) in
    let rest = total-more n c k f g small own others in
    let last = others n (λ q. ne (sym q)) in
    omega (arith, rest, last))
    (same-or c n)

pub total-below : (n most : ℕ) (f : ℕ → ℕ) → ((c : ℕ) → f c ≤ most) → total n f ≤ n * most
total-below zero most f each = omega arith
total-below (suc n) most f each =
    let e = total-below n most f each in
    let d = each n in
    let m : suc n * most ≡ n * most + most = omega arith in
    omega (arith, e, d, m)

-- one CPU has no more than all
pub total-part : (n c : ℕ) (f : ℕ → ℕ) → c < n → f c ≤ total n f
total-part zero c f lt = absurd (omega (arith, lt))
total-part (suc n) c f lt =
    ⊎_elim (λ (e : c ≡ n). subst (λ m. f m ≤ total n f + f n) (sym e) (omega arith))
    (λ (ne : c ≢ n). let t = total-part n c f (omega (arith, lt, ne)) in omega (arith, t))
    (same-or c n)
