-- A task before its first act, and what its CPU asks of a task.
use Rattle.std.specs.Prelude.{ℕ, ◌-◌, ◌*◌, ◌≤◌, Bool, false, nat_lt, List, [], length, Option, Some}
use Rattle.ft_base.specs.declared.number.TaskNo.{TaskNo}
use Rattle.ft_base.specs.declared.task.TaskAct.{TaskAct}
use Rattle.ft_base.specs.declared.task.TaskAct.TheVariants.{After}
use Rattle.grace_core.specs.declared.view.TaskView.{TaskView}
use Rattle.recursion_guard.specs.Guards.{at_start}
use Rattle.word_map.specs.Contents.{returned_at}
use Rattle.task_core.specs.declared.moment.Moment.{Moment}
use Rattle.task_core.specs.declared.moment.Moment.TheVariants.{Polling, First}
use Rattle.task_core.specs.declared.task.Task.{Task}
use Rattle.task_core.specs.Leads.{is_quiet}
use Rattle.task_core.specs.TaskInvariant.{StaysWithin}
use Rattle.task_core.specs.TaskOps.{present}

-- a task before its first act, with room for so many calls and frames, and so many levels of each guard
abbrev pub task_at_start : TaskNo → List TaskAct → (calls frames levels : ℕ) → Task
task_at_start number acts calls frames levels = record {
  number = number;
  acts = record { all = acts; gone = 0 };
  next = 1;
  guards = at_start levels;
  stacks = record { calls = []; call_limit = calls; frame_limit = frames };
  opens = record { calls = []; limit = calls };
  word = 0;
  moment = Polling;
}

-- there is room for so many calls: those of the acts, and those that acts of users make above them, as many as the guard of the call's
-- context has levels, and as many in an interrupt
pub record HasRoomFor (limit levels : ℕ) (acts : List TaskAct) : Type 0 where
  pub nested : 2 * levels ≤ limit
  pub within : StaysWithin (limit - 2 * levels) 0 acts

-- an act is left
abbrev pub is_left : Task → Bool
is_left t = nat_lt t.acts.gone (length t.acts.all)

-- what a poll sees of it
abbrev pub view_of : Task → TaskView
view_of t = record { acts = t.acts.gone; quiet = is_quiet t.moment; left = is_left t; word = t.word }

-- a wait that is not met by this clock
abbrev pub is_unmet_at : Moment → Option TaskAct → ℕ → Bool
is_unmet_at First (Some (After n)) v = nat_lt (returned_at v) n
is_unmet_at m act v = false

-- the wait that the task is at, if it is at one, is not met by this clock
abbrev pub is_unmet : Task → ℕ → Bool
is_unmet t v = is_unmet_at t.moment (present t) v
