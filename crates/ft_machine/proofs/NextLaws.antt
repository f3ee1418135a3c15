-- A step makes the operation that is next.
use Rattle.std.proofs.Common.{cond, ◌≡◌, ℕ, Bool, true, false, length, Option, Some, None, refl, ap, ◌∙◌}
use Rattle.std.specs.Prelude.{nat_lt}
use Rattle.ft_base.specs.declared.turn.Actor.{Actor}
use Rattle.ft_base.specs.declared.turn.Actor.TheVariants.{Control as ByControl, Cpu as ByCpu}
use Rattle.ft_base.specs.Job.{Job}
use Rattle.word_map.specs.Ops.{WordOp}
use Rattle.word_machine.specs.Cpu.{cpu_next}
use Rattle.word_machine.specs.Machine.{World, control_moved, cpu_moved, past_after, step, words_after}
use Rattle.ft_machine.specs.Nexts.{next_op}

-- an actor makes this operation, if it is one
abbrev by : Job → Actor → World → Option WordOp → World
by job ByControl s o = control_moved job s o
by job (ByCpu c) s o = cpu_moved job s c.0 o

-- a CPU moves if it is there
there : (job : Job) (s : World) (c : ℕ) (b : Bool) (o : Option WordOp) → cond b (cpu_moved job s c o) s ≡ cpu_moved job s c (cond b o None)
there job s c true o = refl
there job s c false o = refl

step-by : (job : Job) (a : Actor) (s : World) → step job a s ≡ by job a s (next_op job a s)
unfolding step
step-by job ByControl s = refl
step-by job (ByCpu c) s = there job s c.0 (nat_lt c.0 (length job.quanta)) (cpu_next job (s.cpus c.0))

-- with no operation nothing changes
by-none : (job : Job) (a : Actor) (s : World) → by job a s None ≡ s
by-none job ByControl s = refl
by-none job (ByCpu c) s = refl

by-words : (job : Job) (a : Actor) (s : World) (op : WordOp) → (by job a s (Some op)).words ≡ words_after op s.words
by-words job ByControl s op = refl
by-words job (ByCpu c) s op = refl

by-past : (job : Job) (a : Actor) (s : World) (op : WordOp) → (by job a s (Some op)).past ≡ past_after op s.past
by-past job ByControl s op = refl
by-past job (ByCpu c) s op = refl

module _ (job : Job) (a : Actor) (s : World) where
  step-is : (o : Option WordOp) → next_op job a s ≡ o → step job a s ≡ by job a s o
  step-is o e = step-by job a s ∙ ap (λ o. by job a s o) e

  pub no-step : next_op job a s ≡ None → step job a s ≡ s
  no-step e = step-is None e ∙ by-none job a s

  pub step-words : (op : WordOp) → next_op job a s ≡ Some op → (step job a s).words ≡ words_after op s.words
  step-words op e = ap (λ (t : World). t.words) (step-is (Some op) e) ∙ by-words job a s op

  pub step-past : (op : WordOp) → next_op job a s ≡ Some op → (step job a s).past ≡ past_after op s.past
  step-past op e = ap (λ (t : World). t.past) (step-is (Some op) e) ∙ by-past job a s op
