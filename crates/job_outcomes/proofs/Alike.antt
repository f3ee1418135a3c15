-- A step reads the words and the actors, and adds to the history what it marks.
use Rattle.std.proofs.Common.{◌≡◌, ℕ, true, false, nat_lt, if◌then◌else◌, List, [], ◌∷◌, length, reverse, Option, Some, None, refl, sym, ap, subst, ◌∙◌}
use Rattle.std.proofs.lemmas.List.{reverse-append}
use Rattle.ft_base.specs.declared.item.Item.{Item}
use Rattle.ft_base.specs.declared.turn.Actor.{Actor}
use Rattle.ft_base.specs.declared.turn.Actor.TheVariants.{Control as ByControl, Cpu as ByCpu}
use Rattle.ft_base.specs.Job.{Job}
use Rattle.word_map.specs.Words.{Words}
use Rattle.word_map.specs.Ops.{WordOp, Load, Store, Mark}
use Rattle.word_machine.specs.Control.{Control, control_next}
use Rattle.word_machine.specs.Cpu.{Cpu, cpu_next}
use Rattle.word_machine.specs.Machine.{World, step, run, past_after, control_moved, cpu_moved}
use Rattle.job_outcomes.specs.Jobs.{IsLike}
use Rattle.job_outcomes.specs.Outcomes.{Outcome, outcome}
use Rattle.job_outcomes.proofs.Next.{outcome-next}

module _ (job : Job) where
  -- what is told of a history, the latest item first
  abbrev told : List Item → Outcome
  told past = outcome (length job.tasks) (reverse past)

  -- what an operation adds
  added : (op : WordOp) (p q : List Item) → told p ≡ told q → told (past_after op p) ≡ told (past_after op q)
  added (Load w) p q e = e
  added (Store w x) p q e = e
  added (Mark item) p q e =
      ap (outcome (length job.tasks)) (reverse-append (item ∷ []) p)
      ∙ outcome-next (length job.tasks) (reverse p) (reverse q) item e
      ∙ sym (ap (outcome (length job.tasks)) (reverse-append (item ∷ []) q))

  control-alike : (ws : Words) (k : Control) (cs : ℕ → Cpu) (p q : List Item) → told p ≡ told q → (o : Option WordOp)
      → IsLike job (control_moved job (record { words = ws; control = k; cpus = cs; past = p }) o) (control_moved job (record { words = ws; control = k; cpus = cs; past = q }) o)
  control-alike ws k cs p q e None = record { words = refl; control = refl; cpus = refl; told = e }
  control-alike ws k cs p q e (Some op) = record { words = refl; control = refl; cpus = refl; told = added op p q e }

  cpu-alike : (ws : Words) (k : Control) (cs : ℕ → Cpu) (p q : List Item) → told p ≡ told q → (c : ℕ) (o : Option WordOp)
      → IsLike job (cpu_moved job (record { words = ws; control = k; cpus = cs; past = p }) c o) (cpu_moved job (record { words = ws; control = k; cpus = cs; past = q }) c o)
  cpu-alike ws k cs p q e c None = record { words = refl; control = refl; cpus = refl; told = e }
  cpu-alike ws k cs p q e c (Some op) = record { words = refl; control = refl; cpus = refl; told = added op p q e }

  -- of two states with the same words and actors
  step-past : (a : Actor) (ws : Words) (k : Control) (cs : ℕ → Cpu) (p q : List Item) → told p ≡ told q
      → IsLike job (step job a (record { words = ws; control = k; cpus = cs; past = p })) (step job a (record { words = ws; control = k; cpus = cs; past = q }))
  unfolding step
  step-past ByControl ws k cs p q e = control-alike ws k cs p q e (control_next job k)
  step-past (ByCpu c) ws k cs p q e =
      elim (nat_lt c.0 (length job.quanta)) as (λ b. IsLike job
      (if b then cpu_moved job (record { words = ws; control = k; cpus = cs; past = p }) c.0 (cpu_next job (cs c.0)) else record { words = ws; control = k; cpus = cs; past = p })
      (if b then cpu_moved job (record { words = ws; control = k; cpus = cs; past = q }) c.0 (cpu_next job (cs c.0)) else record { words = ws; control = k; cpus = cs; past = q })) [
        | true ↦ cpu-alike ws k cs p q e c.0 (cpu_next job (cs c.0))
        | false ↦ record { words = refl; control = refl; cpus = refl; told = e }
      ]

  pub step-alike : (a : Actor) (s t : World) → IsLike job s t → IsLike job (step job a s) (step job a t)
  step-alike a s t h =
      subst (λ (ws : Words). IsLike job (step job a s) (step job a (record { words = ws; control = t.control; cpus = t.cpus; past = t.past }))) h.words
      (subst (λ (k : Control). IsLike job (step job a s) (step job a (record { words = s.words; control = k; cpus = t.cpus; past = t.past }))) h.control
      (subst (λ (cs : ℕ → Cpu). IsLike job (step job a s) (step job a (record { words = s.words; control = s.control; cpus = cs; past = t.past }))) h.cpus
      (step-past a s.words s.control s.cpus s.past t.past h.told)))

  pub run-alike : (actors : List Actor) (s t : World) → IsLike job s t → IsLike job (run job actors s) (run job actors t)
  unfolding run
  run-alike [] s t h = h
  run-alike (a ∷ rest) s t h = run-alike rest (step job a s) (step job a t) (step-alike a s t h)
