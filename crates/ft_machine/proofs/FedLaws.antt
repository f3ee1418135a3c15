-- An actor's state is that of the values that its own steps took.
use Rattle.std.proofs.Common.{cond, ◌≡◌, ◌≢◌, ℕ, ◌<◌, ◌==◌, Bool, true, false, List, [], ◌∷◌, ◌++◌, length, Option, Some, None, refl, sym, ap, ◌∙◌, arith, inl, inr}
use Rattle.std.specs.Prelude.{nat_lt}
use Rattle.std.proofs.lemmas.Bool.{cases_eq, eq-eqb, lt-ltb}
use Rattle.std.proofs.lemmas.Bool.Decides.{nat_tests}
use Rattle.ft_base.specs.declared.number.CpuNo.{CpuNo}
use Rattle.ft_base.specs.declared.turn.Actor.{Actor}
use Rattle.ft_base.specs.declared.turn.Actor.TheVariants.{Control as ByControl, Cpu as ByCpu}
use Rattle.ft_base.specs.Job.{Job}
use Rattle.word_map.specs.Ops.{WordOp}
use Rattle.word_machine.specs.Control.{Control, control_next, control_got}
use Rattle.word_machine.specs.Cpu.{Cpu, cpu_next, cpu_got}
use Rattle.word_machine.specs.Machine.{World, control_moved, cpu_moved, run, step, taken}
use Rattle.word_machine.proofs.Small.{put_other, put_same}
use Rattle.ft_machine.specs.Fed.{control_after, control_takes, cpu_after, cpu_takes, given}

-- ## one list of values after another

pub control_after-append : (job : Job) (s : Control) (vs ws : List ℕ) → control_after job s (vs ++ ws) ≡ control_after job (control_after job s vs) ws
control_after-append job s [] ws = refl
control_after-append job s (v ∷ vs) ws = control_after-append job (control_got job s v) vs ws

pub cpu_after-append : (job : Job) (me : Cpu) (vs ws : List ℕ) → cpu_after job me (vs ++ ws) ≡ cpu_after job (cpu_after job me vs) ws
cpu_after-append job me [] ws = refl
cpu_after-append job me (v ∷ vs) ws = cpu_after-append job (cpu_got job me v) vs ws

-- ## one step

control-moves : (job : Job) (s : World) (o : Option WordOp) → (control_moved job s o).control ≡ control_after job s.control (given o s.words)
control-moves job s None = refl
control-moves job s (Some op) = refl

control-leaves : (job : Job) (s : World) (o : Option WordOp) → (control_moved job s o).cpus ≡ s.cpus
control-leaves job s None = refl
control-leaves job s (Some op) = refl

cpu-leaves : (job : Job) (s : World) (d : ℕ) (o : Option WordOp) → (cpu_moved job s d o).control ≡ s.control
cpu-leaves job s d None = refl
cpu-leaves job s d (Some op) = refl

cpu-moves : (job : Job) (s : World) (c : ℕ) (o : Option WordOp) → (cpu_moved job s c o).cpus c ≡ cpu_after job (s.cpus c) (given o s.words)
cpu-moves job s c None = refl
cpu-moves job s c (Some op) = put_same s.cpus c (cpu_got job (s.cpus c) (taken op s.words))

-- a CPU that steps changes no other
other-leaves : (job : Job) (s : World) (c d : ℕ) (o : Option WordOp) → c ≢ d → (cpu_moved job s d o).cpus c ≡ s.cpus c
other-leaves job s c d None ne = refl
other-leaves job s c d (Some op) ne = put_other s.cpus d (cpu_got job (s.cpus d) (taken op s.words)) c ne

-- ## runs

by-control : (job : Job) (s : World) → (step job ByControl s).control ≡ control_after job s.control (given (control_next job s.control) s.words)
unfolding step
by-control job s = control-moves job s (control_next job s.control)

not-control : (job : Job) (s : World) (d : CpuNo) → (step job (ByCpu d) s).control ≡ s.control
unfolding step
not-control job s d = by (nat_lt d.0 (length job.quanta))
  where
    by : (b : Bool) → (cond b (cpu_moved job s d.0 (cpu_next job (s.cpus d.0))) s).control ≡ s.control
    by true = cpu-leaves job s d.0 (cpu_next job (s.cpus d.0))
    by false = refl

pub control-is-fed : (job : Job) (actors : List Actor) (s : World) → (run job actors s).control ≡ control_after job s.control (control_takes job actors s)
unfolding run
control-is-fed job [] s = refl
control-is-fed job (ByControl ∷ rest) s =
    control-is-fed job rest (step job ByControl s)
    ∙ ap (λ (x : Control). control_after job x (control_takes job rest (step job ByControl s))) (by-control job s)
    ∙ sym (control_after-append job s.control (given (control_next job s.control) s.words) (control_takes job rest (step job ByControl s)))
control-is-fed job (ByCpu d ∷ rest) s =
    control-is-fed job rest (step job (ByCpu d) s)
    ∙ ap (λ (x : Control). control_after job x (control_takes job rest (step job (ByCpu d) s))) (not-control job s d)

module _ (job : Job) (c : ℕ) (inside : c < length job.quanta) where
  no-cpu : (s : World) → (step job ByControl s).cpus c ≡ s.cpus c
  unfolding step
  no-cpu s = ap (λ (cpus : ℕ → Cpu). cpus c) (control-leaves job s (control_next job s.control))

  -- what a CPU's step gives this one
  by-cpu : (s : World) (d : CpuNo)
      → (step job (ByCpu d) s).cpus c ≡ cpu_after job (s.cpus c) (cond (d.0 == c) (given (cpu_next job (s.cpus c)) s.words) [])
  unfolding step
  by-cpu s d = elim (cases_eq c d.0) [
    | inl e ↦
        (λ i. (cond (nat_lt (e' e i) (length job.quanta)) (cpu_moved job s (e' e i) (cpu_next job (s.cpus (e' e i)))) s).cpus c)
        ∙ ap (λ b. (cond b (cpu_moved job s c (cpu_next job (s.cpus c))) s).cpus c) (lt-ltb c (length job.quanta) inside)
        ∙ cpu-moves job s c (cpu_next job (s.cpus c))
        ∙ ap (λ b. cpu_after job (s.cpus c) (cond b (given (cpu_next job (s.cpus c)) s.words) [])) (sym (eq-eqb d.0 c (sym e)))
    | inr ne ↦
        other (nat_lt d.0 (length job.quanta)) ne
        ∙ ap (λ b. cpu_after job (s.cpus c) (cond b (given (cpu_next job (s.cpus c)) s.words) [])) (sym (apart ne))
  ]
    where
      e' : c ≡ d.0 → d.0 ≡ c
      e' e = sym e

      apart : c ≢ d.0 → (d.0 == c) ≡ false
      apart ne = grind (arith, nat_tests)

      other : (b : Bool) → c ≢ d.0 → (cond b (cpu_moved job s d.0 (cpu_next job (s.cpus d.0))) s).cpus c ≡ s.cpus c
      other true ne = other-leaves job s c d.0 (cpu_next job (s.cpus d.0)) ne
      other false ne = refl

  pub cpu-is-fed : (actors : List Actor) (s : World) → (run job actors s).cpus c ≡ cpu_after job (s.cpus c) (cpu_takes job c actors s)
  unfolding run
  cpu-is-fed [] s = refl
  cpu-is-fed (ByControl ∷ rest) s =
      cpu-is-fed rest (step job ByControl s)
      ∙ ap (λ (x : Cpu). cpu_after job x (cpu_takes job c rest (step job ByControl s))) (no-cpu s)
  cpu-is-fed (ByCpu d ∷ rest) s =
      cpu-is-fed rest (step job (ByCpu d) s)
      ∙ ap (λ (x : Cpu). cpu_after job x (cpu_takes job c rest (step job (ByCpu d) s))) (by-cpu s d)
      ∙ sym (cpu_after-append job (s.cpus c) (cond (d.0 == c) (given (cpu_next job (s.cpus c)) s.words) []) (cpu_takes job c rest (step job (ByCpu d) s)))
