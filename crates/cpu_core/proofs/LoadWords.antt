-- The word of a task's next load is there.
use Rattle.std.proofs.Common.{List, [], ◌∷◌, length, refl}
use Rattle.ft_base.specs.Job.{Job}
use Rattle.return_stack.specs.Calls.{StackedCall}
use Rattle.word_map.specs.Shapes.{shape_of}
use Rattle.task_core.specs.declared.moment.Moment.{Moment}
use Rattle.task_core.specs.declared.moment.Moment.TheVariants.{Polling, First, Load, Mark}
use Rattle.task_core.specs.declared.moment.ToLoad.{ToLoad}
use Rattle.task_core.specs.declared.moment.ToLoad.TheVariants.{Fetch, GotHead, GotBreak, InTramp, OwnSel, Walking, Reading, AtPids, AtDepth, AtExit}
use Rattle.task_core.specs.declared.open_call.OpenCall.{OpenCall as CodeCall}
use Rattle.task_core.specs.declared.task.Task.{Task}
use Rattle.task_core.specs.TaskNeeds.{IsLoadThere, IsTaskThere, IsThereAt}
use Rattle.task_core.specs.StackInvariant.{IsTaskOf}
use Rattle.task_core.proofs.StackCalls.{in-call_of, none-open, owed-named}
use Rattle.task_core.proofs.RowLists.{standing}
use Rattle.task_core.proofs.ActsLeft.{call-open}

module _ (job : Job) where
  load-there : (t : Task) (o : CodeCall) (os : List CodeCall) (s : StackedCall) (ss : List StackedCall) (l : ToLoad)
      → IsTaskOf job (standing t (o ∷ os) (s ∷ ss) (Load l)) → IsLoadThere (shape_of job) (standing t (o ∷ os) (s ∷ ss) (Load l)) l
  load-there t o os s ss Fetch k = k.steady.calls.0.func
  load-there t o os s ss (GotHead byte) k = k.steady.calls.0.func
  load-there t o os s ss GotBreak k = k.steady.calls.0.func
  load-there t o os s ss (InTramp slot) k = k.steady.calls.0.names
  load-there t o os s ss (OwnSel u reg) k = k.steady.calls.0.names
  load-there t o os s ss Walking k = k.tied.0.shape'
  load-there t o os s ss (Reading r) k = k.moment.shape'
  load-there t o os s ss (AtPids u reg) k = tt
  load-there t o os s ss (AtDepth u reg) k = tt
  load-there t o os s ss (AtExit i) k = owed-named (length job.users) s.users i k.moment k.steady.calls.0.users

  word-there : (t : Task) (os : List CodeCall) (ss : List StackedCall) (m : Moment) → IsTaskOf job (standing t os ss m)
      → IsThereAt (shape_of job) (standing t os ss m) m
  word-there t os ss Polling k = tt
  word-there t os ss First k = tt
  word-there t os ss (Mark l) k = tt
  word-there t [] ss (Load l) k = none-open (call-open job (standing t [] ss (Load l)) k refl)
  word-there t (o ∷ os) [] (Load l) k = none-open (call-open job (standing t (o ∷ os) [] (Load l)) k refl)
  word-there t (o ∷ os) (s ∷ ss) (Load l) k = (
    in-call_of job (standing t (o ∷ os) (s ∷ ss) (Load l)) k (call-open job (standing t (o ∷ os) (s ∷ ss) (Load l)) k refl),
    load-there t o os s ss l k,
  )

  pub task-there : (t : Task) → IsTaskOf job t → IsTaskThere (shape_of job) t
  task-there t k = record { number = k.number; word = word-there t t.opens.calls t.stacks.calls t.moment k }
