-- Control waits for a CPU or a task that the job has, whatever values it loads.
use Rattle.std.proofs.Common.{cond, ◌≡◌, ℕ, zero, suc, ◌<◌, List, [], ◌∷◌, refl, sym, subst}
use Rattle.std.specs.Prelude.{nat_lt, nat_le}
use Rattle.std.proofs.lemmas.Bool.{ltb-true}
use Rattle.ft_base.specs.Job.{Job, Ctl, Run, Until}
use Rattle.grace_core.specs.declared.waiter.WaitPhase.TheVariants.{Asking, Waiting, Ended}
use Rattle.grace_core.specs.Waits.{awaited, reached, waiting_for}
use Rattle.patch_core.specs.Moves.{Move, Put, Sync, Done}
use Rattle.word_machine.specs.Commands.{Effect, Adds, Removes, Edits, effect, moves, has_slot_at, set_words, subject}
use Rattle.word_machine.specs.Control.{Control, Position, Line, Take, Copy, Select, Relink, Patch, Awaited, Ask, Await, Cpus, Tasks, Release, Close, control_got, got_in, line_got, copy_from, begin_in, after_batch_in, before_moves, selected_in, released_in, is_for_tasks, wait_for, after_wait, in_wait}
use Rattle.word_machine.specs.Laws.{WaitsAt}
use Rattle.word_machine.proofs.Small.{if_case}

module _ (job : Job) where
  abbrev W : Position → Type 0
  W p = WaitsAt job p

  to-copy : (h w : ℕ) → W (copy_from job h w)
  to-copy zero w = if_case W (nat_lt w (set_words job)) (Copy 0 w) (cond (nat_lt 0 (set_words job)) (Copy 1 0) Select) (λ e. tt)
      (λ e. if_case W (nat_lt 0 (set_words job)) (Copy 1 0) Select (λ e. tt) (λ e. tt))
  to-copy (suc h) w = if_case W (nat_lt w (set_words job)) (Copy 1 w) Select (λ e. tt) (λ e. tt)

  to-begin : (d : ℕ) (z : Effect) → W (begin_in job d z)
  to-begin d Adds = if_case W (has_slot_at job (suc d) (subject job d)) Take (copy_from job 0 0) (λ e. tt) (λ e. to-copy 0 0)
  to-begin d Edits = to-copy 0 0
  to-begin d _ = tt

  after-batch : (z : Effect) → W (after_batch_in z)
  after-batch Removes = tt
  after-batch _ = tt

  to-moves : (d : ℕ) (rest : List Move) → W (before_moves job d rest)
  to-moves d (Put w x ∷ rest) = tt
  to-moves d (Sync ∷ rest) = tt
  to-moves d (Done ∷ rest) = after-batch (effect job d)
  to-moves d [] = after-batch (effect job d)

  after-select : (d : ℕ) (z : Effect) → W (selected_in job d z)
  after-select d Edits = to-moves d (moves job d)
  after-select d _ = tt

  after-quiet : (d : ℕ) (z : Effect) → W (released_in job d z)
  after-quiet d Removes = if_case W (has_slot_at job d (subject job d)) Release Close (λ e. tt) (λ e. tt)
  after-quiet d _ = tt

  at-line : (s : Control) (remaining : List Ctl) (v : ℕ) → s.position ≡ Line → W (line_got job s remaining v).position
  at-line s [] v e = subst W (sym e) tt
  at-line s (Until t n ∷ rest) v e = subst W (sym e) tt
  at-line s (Run c ∷ rest) v e = to-begin s.commands_done (effect job s.commands_done)

  -- a wait: how many it is for, one of them, what follows, and either
  abbrev many : Awaited → ℕ
  many whom = awaited (wait_for job whom 0 Asking)

  for-one : (whom : Awaited) (n : ℕ) → n < many whom → W (Await whom n)
  for-one (Cpus rest) n there = there
  for-one Tasks n there = there

  after-wait : (d : ℕ) (whom : Awaited) → W (after_wait job d whom)
  after-wait d (Cpus rest) = to-moves d rest
  after-wait d Tasks = after-quiet d (effect job d)

  to-wait : (d : ℕ) (whom : Awaited) (n : ℕ) → W (in_wait job d whom (waiting_for (many whom) n))
  to-wait d whom n =
      if_case (λ p. W (in_wait job d whom p)) (nat_lt n (many whom)) (Waiting n) Ended (λ e. for-one whom n (ltb-true n (many whom) e))
      (λ e. after-wait d whom)

  waits-in : (s : Control) (p : Position) (v : ℕ) → s.position ≡ p → W p → W (got_in job s p v).position
  waits-in s Line v e k = at-line s s.remaining v e
  waits-in s Take v e k = to-copy 0 0
  waits-in s (Copy half w) v e k = to-copy half (suc w)
  waits-in s Select v e k = after-select s.commands_done (effect job s.commands_done)
  waits-in s Relink v e k = to-moves s.commands_done (moves job s.commands_done)
  waits-in s (Patch w x rest) v e k = to-moves s.commands_done rest
  waits-in s (Ask whom) v e k = to-wait s.commands_done whom 0
  waits-in s (Await whom n) v e k =
      if_case (λ p. W (in_wait job s.commands_done whom p)) (nat_le s.request (reached (is_for_tasks whom) v)) (waiting_for (many whom) (suc n)) (Waiting n)
      (λ e. to-wait s.commands_done whom (suc n)) (λ e. k)
  waits-in s _ v e k = tt

  pub waits-got : (s : Control) (v : ℕ) → WaitsAt job s.position → WaitsAt job (control_got job s v).position
  unfolding control_got
  waits-got s v k = waits-in s s.position v refl k
