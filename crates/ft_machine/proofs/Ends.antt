-- Whether actors are at their ends.
use Rattle.std.proofs.Common.{◌≡◌, ℕ, zero, suc, ◌+◌, ◌<◌, Bool, true, false, not, ◌&&◌, List, length, get_or, slice_get, Option, Some, None, option_map, inl, inr, refl, sym, ap, ap₂, ◌∙◌, subst, arith}
use Rattle.std.specs.Prelude.{◌↔◌}
use Rattle.std.specs.Bool.{MatchBool}
use Rattle.std.specs.List.{AllWithin, HoldsAt}
use Rattle.std.specs.Option.{is_none, is_some}
use Rattle.std.proofs.lemmas.Option.{slice_get_cases, slice_get_within}
use Rattle.ft_base.specs.declared.item.Item.{Item}
use Rattle.ft_base.specs.declared.number.CpuNo.{CpuNo}
use Rattle.ft_base.specs.declared.turn.Actor.TheVariants as actor
use Rattle.ft_base.specs.Job.{Job}
use Rattle.word_map.specs.declared.op.Op.{Op}
use Rattle.word_map.specs.Ops.{placed}
use Rattle.word_machine.specs.Control.{control_next}
use Rattle.word_machine.specs.Cpu.{Cpu, cpu_next, cpu_start}
use Rattle.word_machine.specs.Laws.{Runs}
use Rattle.word_machine.specs.Limits.{IsLimited}
use Rattle.word_machine.specs.Machine.{all_end, control_is_done, cpus_end, is_at_end, is_end}
use Rattle.word_machine_laws.proofs.Stops.{control-ends, cpu-ends}
use Rattle.control_core.specs.Seated.{IsFor as IsControlFor, control_of}
use Rattle.cpu_core.specs.declared.parts.Parts.{Parts as CpuParts}
use Rattle.cpu_core.specs.Cpus.{IsFor as IsCpuFor, cpu_of}
use Rattle.ft_machine.specs.Worlds.{IsFor, Parts, cpu_or, world_of}

-- ## one actor

-- a test that tells that nothing is left
none-left : {A : Type 0} (b : Bool) (o : Option A) → (b ≡ true) ↔ (o ≡ None) → is_none o ≡ b
none-left true o h = ap is_none (h.0 refl)
none-left false None h = sym (h.1 refl)
none-left false (Some x) h = refl

-- the same test, as code makes it
pub none-told : {A : Type 0} (b : Bool) (o : Option A) → is_some o ≡ not b → b ≡ is_none o
none-told true o e = ap not (sym e)
none-told false o e = ap not (sym e)

-- nothing is left of an option that is mapped exactly if nothing was
pub none-mapped : {A B : Type 0} (f : A → B) (o : Option A) → is_none (option_map f o) ≡ is_none o
none-mapped f None = refl
none-mapped f (Some x) = refl

-- control has no operation left
control-end : (job : Job) (w : Parts) → is_none (control_next job (control_of w.control)) ≡ control_is_done (control_of w.control) (control_of w.control).position
control-end job w = none-left _ (control_next job (control_of w.control)) (control-ends job (control_of w.control))

module _ (job : Job) (past : List Item) (w : Parts) (r : Runs job (world_of job past w)) (c : ℕ) (x : CpuParts) (at : slice_get w.cpus c ≡ Some x) where
  -- a CPU has none left
  cpu-end : c < length job.quanta → is_none (cpu_next job (cpu_of job x)) ≡ is_end ((world_of job past w).cpus c).phase
  cpu-end inside =
      ap (λ o. is_none (cpu_next job (cpu_or job (cpu_start job c) o))) (sym at)
      ∙ none-left _ (cpu_next job ((world_of job past w).cpus c)) (cpu-ends job (world_of job past w) r.kept c inside)

-- ## as the machine asks it

-- code's test of control
pub control-told : (job : Job) (past : List Item) (w : Parts) → IsFor job past w → (o : Option Op) (b : Bool)
    → ((job' : Job) → IsControlFor job' w.control → o ≡ option_map (placed w.control.shape) (control_next job' (control_of w.control))) → is_some o ≡ not b
    → b ≡ control_is_done (control_of w.control) (control_of w.control).position
control-told job past w k o b next told =
    none-told b o told
    ∙ ap is_none (next job k.control')
    ∙ none-mapped (placed w.control.shape) (control_next job (control_of w.control))
    ∙ control-end job w

pub control-at-end : (job : Job) (past : List Item) (w : Parts) (b : Bool) → b ≡ control_is_done (control_of w.control) (control_of w.control).position
    → b ≡ is_at_end job actor.Control (world_of job past w)
unfolding is_at_end
control-at-end job past w b e = e

pub cpu-at-end : (job : Job) (past : List Item) → IsLimited job → (w : Parts) → IsFor job past w → Runs job (world_of job past w) → (n : CpuNo) (x : CpuParts) → slice_get w.cpus n.0 ≡ Some x
    → is_none (cpu_next job (cpu_of job x)) ≡ is_at_end job (actor.Cpu n) (world_of job past w)
unfolding is_at_end
cpu-at-end job past limited w k r n x at =
    let many = k.cpus' in
    let within = slice_get_within w.cpus n.0 x at in
    cpu-end job past w r n.0 x at (omega (arith, many, within))

-- a CPU that there is not is not at its end
pub no-cpu-at-end : (job : Job) (past : List Item) (w : Parts) (n : CpuNo) → slice_get w.cpus n.0 ≡ None → false ≡ is_at_end job (actor.Cpu n) (world_of job past w)
unfolding is_at_end
no-cpu-at-end job past w n none = sym (ap (λ o. is_end (cpu_or job (cpu_start job n.0) o).phase) none)

-- ## all CPUs

all-true : (cpus : ℕ → Cpu) (n c : ℕ) → ((i : ℕ) → i < n → is_end (cpus (c + i)).phase ≡ true) → cpus_end cpus c n ≡ true
all-true cpus zero c h = refl
all-true cpus (suc n) c h =
    let z : c + 0 ≡ c = omega arith in
    let s : (i : ℕ) → c + suc i ≡ suc c + i = λ i. omega arith in
    ap₂ (λ a b. a && b) (subst (λ k. is_end (cpus k).phase ≡ true) z (h 0 (omega arith)))
    (all-true cpus n (suc c) (λ i lt. subst (λ k. is_end (cpus k).phase ≡ true) (s i) (h (suc i) (omega (arith, lt)))))

none-more : (b : Bool) → (b && false) ≡ false
none-more true = refl
none-more false = refl

one-false : (cpus : ℕ → Cpu) (n c i : ℕ) → i < n → is_end (cpus (c + i)).phase ≡ false → cpus_end cpus c n ≡ false
one-false cpus zero c i lt e = absurd (omega (arith, lt))
one-false cpus (suc n) c zero lt e =
    let z : c + 0 ≡ c = omega arith in
    ap (λ b. b && cpus_end cpus (suc c) n) (subst (λ k. is_end (cpus k).phase ≡ false) z e)
one-false cpus (suc n) c (suc i) lt e =
    let s : c + suc i ≡ suc c + i = omega arith in
    ap (λ b. is_end (cpus c).phase && b) (one-false cpus n (suc c) i (omega (arith, lt)) (subst (λ k. is_end (cpus k).phase ≡ false) s e))
    ∙ none-more (is_end (cpus c).phase)

-- the test of a CPU's end has this answer
abbrev pub Ended : Job → Bool → CpuParts → Type 0
Ended job b x = IsCpuFor job x → b ≡ is_none (cpu_next job (cpu_of job x))

module _ (job : Job) (past : List Item) (limited : IsLimited job) (w : Parts) (k : IsFor job past w) (r : Runs job (world_of job past w)) where
  answer-is : (b : Bool) (i : ℕ) (x : CpuParts) → slice_get w.cpus i ≡ Some x → Ended job b x → is_end ((world_of job past w).cpus i).phase ≡ b
  answer-is b i x at e =
      let many = k.cpus' in
      let within = slice_get_within w.cpus i x at in
      sym (e (k.each i x at).is_for ∙ cpu-end job past w r i x at (omega (arith, many, within)))

  answer-at : (b : Bool) (i : ℕ) → i < length w.cpus → ((x : CpuParts) → Ended job b (get_or w.cpus i x)) → is_end ((world_of job past w).cpus i).phase ≡ b
  answer-at b i lt e = elim (slice_get_cases w.cpus i).1 [
    | inl f ↦ answer-is b i f.0 f.2 (subst (λ x. Ended job b x) f.3 (e f.0))
    | inr none ↦ (let past = none.0 in absurd (omega (arith, lt, past)))
  ]

  pub all-answer : (b : Bool) → MatchBool b (AllWithin (Ended job true) w.cpus 0 (length w.cpus)) ((i : ℕ) × (i < length w.cpus) × HoldsAt (Ended job false) w.cpus i)
      → b ≡ cpus_end (world_of job past w).cpus 0 (length job.quanta)
  all-answer true h =
      let z : (i : ℕ) → i ≡ 0 + i = λ i. omega arith in
      let many = k.cpus' in
      sym (all-true (world_of job past w).cpus (length job.quanta) 0
      (λ i lt. subst (λ n. is_end ((world_of job past w).cpus n).phase ≡ true) (z i)
      (let within : i < length w.cpus = omega (arith, lt, many) in answer-at true i within (λ x. h i x (omega arith) within))))
  all-answer false h =
      let z : h.0 ≡ 0 + h.0 = omega arith in
      let many = k.cpus' in
      let lt = h.1 in
      sym (one-false (world_of job past w).cpus (length job.quanta) 0 h.0 (omega (arith, lt, many))
      (subst (λ n. is_end ((world_of job past w).cpus n).phase ≡ false) z (answer-at false h.0 h.1 (λ x. h.2 x))))

-- ## all actors

pub all-at-end : (job : Job) (past : List Item) (w : Parts) (a b : Bool) → a ≡ control_is_done (control_of w.control) (control_of w.control).position
    → b ≡ cpus_end (world_of job past w).cpus 0 (length job.quanta) → (a && b) ≡ all_end job (world_of job past w)
unfolding all_end
all-at-end job past w a b e f = λ i. e i && f i
