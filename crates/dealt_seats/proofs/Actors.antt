-- Of each actor a value, and that of one actor is another.
use Rattle.std.proofs.Common.{◌≡◌, ◌≢◌, ◌⊎◌, ℕ, ◌+◌, ◌<◌, Bool, true, false, cond, inl, inr, refl, sym, ap, subst, arith, eq-eqb}
use Rattle.std.specs.Prelude.{◌==◌, if◌then◌else◌}
use Rattle.std.proofs.lemmas.Bool.{cases_eq}
use Rattle.std.proofs.lemmas.Bool.Decides.{nat_tests}
use Rattle.ft_base.specs.declared.turn.Actor.{Actor}
use Rattle.ft_base.specs.declared.turn.Actor.TheVariants.{Control as ByFirst, Cpu as ByCpu}
use Rattle.dealt_seats.specs.Covers.{HasSeat}
use Rattle.dealt_seats.specs.Views.{cpu}

-- that of CPU c is v
abbrev pub at_cpu : {V : Type 0} → (Actor → V) → ℕ → V → Actor → V
at_cpu f c v ByFirst = f ByFirst
at_cpu f c v (ByCpu d) = if d.0 == c then v else f (ByCpu d)

-- that of the first actor is v
abbrev pub at_first : {V : Type 0} → (Actor → V) → V → Actor → V
at_first f v ByFirst = v
at_first f v (ByCpu d) = f (ByCpu d)

-- the number of a CPU
abbrev number_in : Actor → ℕ
number_in ByFirst = 0
number_in (ByCpu d) = d.0

pub at_cpu-same : {V : Type 0} (f : Actor → V) (c : ℕ) (v : V) → at_cpu f c v (cpu c) ≡ v
at_cpu-same f c v = ap (λ b. cond b v (f (cpu c))) (eq-eqb c c refl)

pub at_cpu-else : {V : Type 0} (f : Actor → V) (c : ℕ) (v : V) (a : Actor) → (a ≡ cpu c → ⊥) → at_cpu f c v a ≡ f a
at_cpu-else f c v ByFirst apart = refl
at_cpu-else f c v (ByCpu d) apart = by (d.0 == c) refl
  where
    by : (b : Bool) → (d.0 == c) ≡ b → cond b v (f (ByCpu d)) ≡ f (ByCpu d)
    by true e = let same : d.0 ≡ c = grind (arith, nat_tests) in absurd (apart (ap cpu same))
    by false e = refl

pub at_cpu-other : {V : Type 0} (f : Actor → V) (c : ℕ) (v : V) (d : ℕ) → d ≢ c → at_cpu f c v (cpu d) ≡ f (cpu d)
at_cpu-other f c v d ne = at_cpu-else f c v (cpu d) (λ e. ne (ap number_in e))

-- one that has v keeps it
pub at_cpu-kept : {V : Type 0} (f : Actor → V) (c : ℕ) (v : V) (a : Actor) → f a ≡ v → at_cpu f c v a ≡ v
at_cpu-kept f c v ByFirst e = e
at_cpu-kept f c v (ByCpu d) e = by (d.0 == c)
  where
    by : (b : Bool) → cond b v (f (ByCpu d)) ≡ v
    by true = refl
    by false = e

pub at_first-else : {V : Type 0} (f : Actor → V) (v : V) (a : Actor) → (a ≡ ByFirst → ⊥) → at_first f v a ≡ f a
at_first-else f v ByFirst apart = absurd (apart refl)
at_first-else f v (ByCpu d) apart = refl

-- ## one CPU and all others

first-is-none : (c : ℕ) → ByFirst ≡ cpu c → ⊥
first-is-none c e = let lt : c < 0 = subst (λ (a : Actor). HasSeat 0 a) e tt in omega (arith, lt)

-- an actor is this CPU, or another
pub one-or : (c : ℕ) (a : Actor) → (cpu c ≡ a) ⊎ (a ≡ cpu c → ⊥)
one-or c ByFirst = inr (first-is-none c)
one-or c (ByCpu d) = elim (cases_eq d.0 c) [
  | inl e ↦ inl (ap cpu (sym e))
  | inr ne ↦ inr (λ e. ne (ap number_in e))
]

-- if one CPU more is split off, each other actor had its seat before
pub still-seated : (split : ℕ) (a : Actor) → (a ≡ cpu split → ⊥) → HasSeat (split + 1) a → HasSeat split a
still-seated split ByFirst apart has = tt
still-seated split (ByCpu d) apart has = by (d.0 == split) refl
  where
    by : (b : Bool) → (d.0 == split) ≡ b → d.0 < split
    by true e = let same : d.0 ≡ split = grind (arith, nat_tests) in absurd (apart (ap cpu same))
    by false e = let ne : d.0 ≢ split = grind (arith, nat_tests) in omega (arith, has, ne)
