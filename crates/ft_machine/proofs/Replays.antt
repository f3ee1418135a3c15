-- Every interleaving is that of some schedule, each replay is a run of a beginning of its actors, and all actors are at their ends
-- exactly if each is.
use Rattle.std.proofs.Common.{cond, ◌≡◌, ℕ, zero, suc, ◌+◌, ◌<◌, ◌↔◌, Bool, true, false, List, [], ◌∷◌, length, refl, ap, arith, inl, inr}
use Rattle.std.specs.Prelude.{map}
use Rattle.ft_base.specs.declared.turn.Actor.{Actor}
use Rattle.ft_base.specs.declared.turn.Actor.TheVariants.{Control, Cpu}
use Rattle.ft_base.specs.Job.{Job}
use Rattle.ft_base.specs.Schedule.{IsActor, actors_in, repeated, turn_for}
use Rattle.ft_base.proofs.Small.{and_both}
use Rattle.word_machine.specs.Cpu.{Cpu as CpuState}
use Rattle.word_machine.specs.Machine.{World, all_end, control_is_done, cpus_end, is_at_end, is_end, played, run, step}
use Rattle.ft_machine.specs.Replays.{StopsAt}

-- ## schedules

pub one-by-one : (cpus : ℕ) (actors : List Actor) → actors_in cpus (map turn_for actors) ≡ actors
unfolding repeated
one-by-one cpus [] = refl
one-by-one cpus (Control ∷ actors) = ap (λ (xs : List Actor). Control ∷ xs) (one-by-one cpus actors)
one-by-one cpus (Cpu c ∷ actors) = ap (λ (xs : List Actor). Cpu c ∷ xs) (one-by-one cpus actors)

-- ## replays

module _ (job : Job) where
  pub played-run : (actors : List Actor) (s : World) → StopsAt job actors s (played job actors s)
  unfolding played run
  played-run [] s = record { front = []; rest = []; split = refl; is = refl; why = inr refl }
  played-run (a ∷ actors) s = by (all_end job s) refl (played-run actors (step job a s))
    where
      by : (b : Bool) → all_end job s ≡ b → StopsAt job actors (step job a s) (played job actors (step job a s)) → StopsAt job (a ∷ actors) s (cond b s (played job actors (step job a s)))
      by true e more = record { front = []; rest = a ∷ actors; split = refl; is = refl; why = inl e }
      by false e more = record { front = a ∷ more.front; rest = more.rest; split = ap (λ (xs : List Actor). a ∷ xs) more.split; is = more.is; why = more.why }

-- ## ends

-- each of the CPUs from one on is at its end
each-ends : (cpus : ℕ → CpuState) (c n : ℕ) → cpus_end cpus c n ≡ true → (k : ℕ) → k < n → is_end (cpus (c + k)).phase ≡ true
each-ends cpus c zero all k lt = absurd (omega (arith, lt))
each-ends cpus c (suc n) all zero lt =
    let z : c + 0 ≡ c = omega arith in rw z (and_both (is_end (cpus c).phase) (cpus_end cpus (suc c) n) all).0
each-ends cpus c (suc n) all (suc k) lt =
    let s : c + suc k ≡ suc c + k = omega arith in
    rw s (each-ends cpus (suc c) n (and_both (is_end (cpus c).phase) (cpus_end cpus (suc c) n) all).1 k (omega (arith, lt)))

all-of-each : (cpus : ℕ → CpuState) (c n : ℕ) → ((k : ℕ) → k < n → is_end (cpus (c + k)).phase ≡ true) → cpus_end cpus c n ≡ true
all-of-each cpus c zero each = refl
all-of-each cpus c (suc n) each =
    let z : c + 0 ≡ c = omega arith in
    let first : is_end (cpus c).phase ≡ true = rw z at (each 0 (omega arith)) in
    let rest : cpus_end cpus (suc c) n ≡ true = all-of-each cpus (suc c) n (λ k lt. (let s : suc c + k ≡ c + suc k = omega arith in rw s (each (suc k) (omega (arith, lt))))) in
    rw (first, rest) refl

module _ (job : Job) (s : World) where
  each-from-all : all_end job s ≡ true → (a : Actor) → IsActor job a → is_at_end job a s ≡ true
  unfolding all_end is_at_end
  each-from-all all Control is = (and_both (control_is_done s.control s.control.position) (cpus_end s.cpus 0 (length job.quanta)) all).0
  each-from-all all (Cpu c) is =
      let z : 0 + c.0 ≡ c.0 = omega arith in
      rw z at (each-ends s.cpus 0 (length job.quanta) (and_both (control_is_done s.control s.control.position) (cpus_end s.cpus 0 (length job.quanta)) all).1 c.0 is)

  all-from-each : ((a : Actor) → IsActor job a → is_at_end job a s ≡ true) → all_end job s ≡ true
  unfolding all_end is_at_end
  all-from-each each =
      let cpus : cpus_end s.cpus 0 (length job.quanta) ≡ true =
      all-of-each s.cpus 0 (length job.quanta) (λ k lt. (let z : 0 + k ≡ k = omega arith in rw z (each (Cpu (record { 0 = k })) lt))) in
      rw (each Control tt, cpus) refl

pub ends-alike : (job : Job) (s : World) → (all_end job s ≡ true) ↔ ((a : Actor) → IsActor job a → is_at_end job a s ≡ true)
ends-alike job s = (each-from-all job s, all-from-each job s)
