-- Each step of a task of code is a row of the machine.
use Rattle.std.proofs.Common.{◌≡◌, ℕ, false, List, [], ◌∷◌, drop, sym}
use Rattle.ft_base.specs.Desk.{spec_at}
use Rattle.ft_base.specs.Job.{Job}
use Rattle.ft_base.proofs.Small.{false_true}
use Rattle.ft_hist.specs.Plain.{owed_by}
use Rattle.return_stack.specs.Calls.{StackedCall}
use Rattle.word_map.specs.Contents.{low}
use Rattle.word_map.specs.Shapes.{shape_of}
use Rattle.word_machine.specs.Limits.{IsLimited}
use Rattle.word_machine.specs.Task.{task_got}
use Rattle.task_core.specs.declared.moment.Moment.{Moment}
use Rattle.task_core.specs.declared.moment.Moment.TheVariants.{Polling, First, Load, Mark}
use Rattle.task_core.specs.declared.moment.ToMark.{ToMark}
use Rattle.task_core.specs.declared.moment.ToMark.TheVariants.{Refusing, Calling, Missing, Acting, Ending, Closing, Leaving, Exiting, EndingExit, Returning}
use Rattle.task_core.specs.declared.open_call.OpenCall.{OpenCall as CodeCall}
use Rattle.task_core.specs.declared.task.Task.{Task}
use Rattle.recursion_guard.specs.Guards.{left}
use Rattle.task_core.specs.Opens.{no_call}
use Rattle.task_core.specs.Setups.{setup_in}
use Rattle.task_core.specs.States.{is_polling, mark_moment, moment_of, state_of, users_in}
use Rattle.task_core.specs.TaskSteps.{after_mark, task_after}
use Rattle.task_core.specs.StackInvariant.{IsTaskOf}
use Rattle.task_core.proofs.RowCallbacks.{back-row}
use Rattle.task_core.proofs.RowExits.{exit-end_row, exit-row, from-row}
use Rattle.task_core.proofs.RowFinishes.{body-row, first-got, return-row}
use Rattle.task_core.proofs.RowLists.{get-first, standing}
use Rattle.task_core.proofs.RowLoads.{load-row}
use Rattle.task_core.proofs.RowMarks.{acted-row, acts-row, passed-row}
use Rattle.task_core.proofs.RowMoments.{load-loud, mark-loud, no-call}

-- a mark of the top call
mark-row : (job : Job) (t : Task) (o : CodeCall) (os : List CodeCall) (s : StackedCall) (ss : List StackedCall) (mark : ToMark) (v : ℕ)
    → IsTaskOf job (standing t (o ∷ os) (s ∷ ss) (Mark mark))
    → state_of (after_mark (standing t (o ∷ os) (s ∷ ss) (Mark mark)) (setup_in job) mark (low v))
    ≡ task_got job t.number.0 (state_of (standing t (o ∷ os) (s ∷ ss) (Mark mark))) (mark_moment (users_in s.users) mark) v
mark-row job t o os s ss (Refusing u reg reason) v k = passed-row job t o os s ss (Mark (Refusing u reg reason)) u.0 k.tied.0.walk
mark-row job t o os s ss (Calling u reg) v k = back-row job t o os s ss u reg (low v) k
mark-row job t o os s ss (Missing u) v k = acts-row job t o os s ss (Mark (Missing u)) u (owed_by o.ctx (spec_at job u.0).act)
mark-row job t o os s ss (Acting u f x) v k = acted-row job t o os s ss (shape_of job) u f x k.tied.0.task
mark-row job t o os s ss (Ending u) v k =
    passed-row job (record t { guards = left t.guards }) o os s ss (Mark (Ending u)) u.0 k.tied.0.walk
mark-row job t o os s ss Closing v k = body-row job t o os s ss
mark-row job t o os s ss Leaving v k = from-row job t o os s ss (Mark Leaving) 0
mark-row job t o os s ss (Exiting i) v k = exit-row job t o os s ss i v k.moment
mark-row job t o os s ss (EndingExit i) v k = exit-end_row job t o os s ss i v k.moment
mark-row job t o os s ss Returning v k = return-row job t o os s ss k

module _ (job : Job) (t : Task) (v : ℕ) where
  step-row : (os : List CodeCall) (ss : List StackedCall) (m : Moment) → IsLimited job → IsTaskOf job (standing t os ss m) → is_polling m ≡ false
      → state_of (task_after (standing t os ss m) (setup_in job) v)
      ≡ task_got job t.number.0 (state_of (standing t os ss m)) (moment_of (standing t os ss m)) v
  step-row os ss Polling limited k e = false_true (sym e)
  step-row os ss First limited k e = rw (get-first t.acts.all t.acts.gone) (first-got job t v os ss (drop t.acts.gone t.acts.all) k k.steady.script)
  step-row [] [] (Load load) limited k e = no-call job t (Load load) k (load-loud no_call [] load)
  step-row [] [] (Mark mark) limited k e = no-call job t (Mark mark) k (mark-loud [] mark)
  step-row [] (s ∷ ss) m limited k e = absurd k.tied
  step-row (o ∷ os) [] m limited k e = absurd k.tied
  step-row (o ∷ os) (s ∷ ss) (Load load) limited k e = load-row job t o os s ss load v limited k
  step-row (o ∷ os) (s ∷ ss) (Mark mark) limited k e = mark-row job t o os s ss mark v k

  -- after a value it stands for what the machine's task is then
  pub step-is : IsLimited job → IsTaskOf job t → is_polling t.moment ≡ false
      → state_of (task_after t (setup_in job) v) ≡ task_got job t.number.0 (state_of t) (state_of t).moment v
  step-is limited k e = step-row t.opens.calls t.stacks.calls t.moment limited k e
