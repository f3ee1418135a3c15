-- What the steps of a return make of a task is what the machine makes of it, up to the Ret.
use Rattle.std.proofs.Common.{cond, ◌≡◌, ℕ, suc, ◌<◌, Bool, true, false, List, [], ◌∷◌, drop, slice_get, length, Option, Some, None, option_map, refl, sym, ap, ◌∙◌}
use Rattle.ft_base.specs.Job.{Job}
use Rattle.ft_hist.specs.Frames.{FrameUser}
use Rattle.return_stack.specs.declared.shadow.FrameUser.{FrameUser as OwedUser}
use Rattle.return_stack.specs.Calls.{StackedCall}
use Rattle.word_map.specs.Contents.{stands}
use Rattle.word_machine.specs.Task.{at_moment, exit_in, next_exit, task_got}
use Rattle.word_machine.specs.Task as machine
use Rattle.task_core.specs.declared.moment.Moment.{Moment}
use Rattle.task_core.specs.declared.moment.Moment.TheVariants.{Load, Mark}
use Rattle.task_core.specs.declared.moment.ToLoad.TheVariants.{AtExit}
use Rattle.task_core.specs.declared.moment.ToMark.TheVariants.{Exiting, EndingExit}
use Rattle.task_core.specs.declared.open_call.OpenCall.{OpenCall as CodeCall}
use Rattle.task_core.specs.declared.task.Task.{Task}
use Rattle.task_core.specs.States.{ending_exit, exiting, moment_at, plain_user, state_of, users_in}
use Rattle.task_core.specs.TaskOps.{frame_user, owed_at}
use Rattle.task_core.specs.TaskSteps.{at, exit_from, exit_stated, exit_to}
use Rattle.task_core.proofs.RowLists.{owed-first, owed-split, standing}

-- the next user of the frame, or the Ret
exit-moment : (o : CodeCall) (users : List FrameUser) (i : ℕ) (g : Option OwedUser) (d : List FrameUser) → option_map plain_user g ≡ slice_get d 0
    → drop i users ≡ d → moment_at o users (exit_to i g) ≡ next_exit d
exit-moment o users i None [] e split = refl
exit-moment o users i None (m ∷ rest) e split = absurd cc
exit-moment o users i (Some g) [] e split = absurd cc
exit-moment o users i (Some g) (m ∷ rest) e split = ap next_exit split

module _ (job : Job) (t : Task) (o : CodeCall) (os : List CodeCall) (s : StackedCall) (ss : List StackedCall) where
  -- the task at a moment
  abbrev now : Moment → Task
  now m = standing t (o ∷ os) (s ∷ ss) m

  -- the users of the top call's frame
  abbrev users : List FrameUser
  users = users_in s.users

  pub from-row : (m : Moment) (i : ℕ) → state_of (exit_from (now m) i) ≡ at_moment (state_of (now m)) (next_exit (drop i users))
  from-row m i = ap (at_moment (state_of (now m))) (exit-moment o users i (owed_at (s ∷ ss) i) (drop i users) (owed-first s.users i) refl)

  -- an exit comes only if its registration is live
  pub live-row : (i v : ℕ) → i < length users
      → state_of (exit_stated (now (Load (AtExit i))) i v) ≡ task_got job t.number.0 (state_of (now (Load (AtExit i)))) (next_exit (drop i users)) v
  live-row i v lt =
      by (stands v (frame_user y i).reg) (ap exiting split) (from-row (Load (AtExit i)) (suc i))
      ∙ ap (λ (d : List FrameUser). task_got job t.number.0 (state_of y) (next_exit d) v) (sym split)
    where
      y : Task
      y = now (Load (AtExit i))

      m : FrameUser
      m = plain_user (frame_user y i)

      split : drop i users ≡ m ∷ drop (suc i) users
      split = owed-split s.users i lt

      by : (b : Bool) → exiting (drop i users) ≡ machine.Exiting m (drop (suc i) users)
          → state_of (exit_from y (suc i)) ≡ at_moment (state_of y) (next_exit (drop (suc i) users))
          → state_of (cond b (at y (Mark (Exiting i))) (exit_from y (suc i))) ≡ at_moment (state_of y) (exit_in b m (drop (suc i) users))
      by true e more = ap (at_moment (state_of y)) e
      by false e more = more

  pub exit-row : (i v : ℕ) → i < length users
      → state_of (at (now (Mark (Exiting i))) (Mark (EndingExit i))) ≡ task_got job t.number.0 (state_of (now (Mark (Exiting i)))) (exiting (drop i users)) v
  exit-row i v lt =
      ap (λ (d : List FrameUser). at_moment (state_of (now (Mark (Exiting i)))) (ending_exit d)) (owed-split s.users i lt)
      ∙ ap (λ (d : List FrameUser). task_got job t.number.0 (state_of (now (Mark (Exiting i)))) (exiting d) v) (sym (owed-split s.users i lt))

  pub exit-end_row : (i v : ℕ) → i < length users
      → state_of (exit_from (now (Mark (EndingExit i))) (suc i))
      ≡ task_got job t.number.0 (state_of (now (Mark (EndingExit i)))) (ending_exit (drop i users)) v
  exit-end_row i v lt =
      from-row (Mark (EndingExit i)) (suc i)
      ∙ ap (λ (d : List FrameUser). task_got job t.number.0 (state_of (now (Mark (EndingExit i)))) (ending_exit d) v) (sym (owed-split s.users i lt))
