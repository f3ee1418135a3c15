-- Each open call of a task, wherever it is in the stack, has what the rule says of it.
use Rattle.std.proofs.Common.{ℕ, List, [], ◌∷◌, inl, inr, subst}
use Rattle.ft_base.specs.declared.item.Item.{Item}
use Rattle.ft_base.specs.Job.{Job}
use Rattle.word_map.specs.Contents.{low}
use Rattle.word_machine.specs.Task.{OpenCall, Moment}
use Rattle.word_machine.specs.Machine.{World}
use Rattle.word_machine.specs.Verdicts.{Here}
use Rattle.word_machine.specs.Calls.{Opened, CallAt, Calls, under_call}
use Rattle.word_machine.specs.Tasks.{TaskRule}
use Rattle.word_machine.specs.Rule.{MachineRule, here}
use Rattle.word_machine.specs.Laws.{OpenAt, IsAt}

open-call : (job : Job) (h : Here) (past : List Item) (ack q t : ℕ) (m m' : Moment) (stack : List OpenCall) (top : OpenCall) (below : List OpenCall)
    → OpenAt m stack m' top below → Calls job h past ack q t m stack → Opened job past t top × CallAt job h past ack q top below m'
open-call job h past ack q t m m' [] top below at' k = absurd at'
open-call job h past ack q t m m' (c ∷ cs) top below (inl e) k =
    subst (λ (x : Moment × OpenCall × List OpenCall). Opened job past t x.1 × CallAt job h past ack q x.1 x.2 x.0) (λ i. (e.0 i, e.1 i, e.2 i)) (k.0, k.1)
open-call job h past ack q t m m' (c ∷ cs) top below (inr at') k = open-call job h past ack q t (under_call c cs) m' cs top below at' k.2

module _ (job : Job) (s : World) (kept : MachineRule job s) (c t : ℕ) (top : OpenCall) (below : List OpenCall) where
  pub task-rule : (m : Moment) → IsAt job s c t top below m
      → TaskRule job (here s kept.base) s.past (s.words.ack c) (s.words.quiet t) t ((s.cpus c).tasks t)
  task-rule m at' = (kept.cpus c at'.inside).tasks t at'.on

  pub call-rule : (m : Moment) → IsAt job s c t top below m
      → Opened job s.past t top × CallAt job (here s kept.base) s.past (s.words.ack c) (low (s.words.quiet t)) top below m
  call-rule m at' =
      open-call job (here s kept.base) s.past (s.words.ack c) (low (s.words.quiet t)) t ((s.cpus c).tasks t).moment m ((s.cpus c).tasks t).stack top below
      at'.call (task-rule m at').calls
