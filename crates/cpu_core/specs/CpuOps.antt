-- A CPU's next operation, by what contracts see of it.
use Rattle.std.specs.Prelude.{ℕ, Bool, false, not, ◌&&◌, slice_get, Option, Some, None, if◌then◌else◌}
use Rattle.grace_core.specs.Views.{acknowledged, told_word}
use Rattle.word_map.specs.Words.{Ack, Quiet, Want}
use Rattle.word_map.specs.Ops.{WordOp, Load, Store}
use Rattle.cpu_core.specs.declared.parts.Parts.{Parts}
use Rattle.cpu_core.specs.declared.parts.Phase.{Phase}
use Rattle.cpu_core.specs.declared.parts.Phase.TheVariants.{Going, Looked, Answering, StoringAck, StoringQuiet, Over}
use Rattle.task_core.specs.declared.task.Task.{Task}
use Rattle.task_core.specs.Contexts.{is_open_to_requests}
use Rattle.task_core.specs.Starts.{view_of}
use Rattle.task_core.specs.States.{is_polling}
use Rattle.task_core.specs.TaskOps.{op_of}
use Rattle.cpu_core.specs.Turns.{any_left}

-- the present task
abbrev pub present_task : Parts → Option Task
present_task c = slice_get c.tasks c.present

-- a task makes the next operation
abbrev pub runs : Option Task → Bool
runs None = false
runs (Some t) = not (is_polling t.moment)

-- its present task makes the next operation, and not a poll
abbrev pub is_running : Parts → Bool
is_running c = runs (present_task c)

-- a task is at a step before which its CPU looks
abbrev pub is_open : Option Task → Bool
is_open None = false
is_open (Some t) = is_open_to_requests t

-- a look is next
abbrev pub is_looking : Parts → Bool
is_looking c = c.setup.looks && is_open (present_task c)

-- a task's operation
abbrev pub op_by : Option Task → Option WordOp
op_by None = None
op_by (Some t) = op_of t

-- the store of a task's word
abbrev pub told_op : ℕ → Option Task → Option WordOp
told_op r None = None
told_op r (Some t) = Some (Store (Quiet t.number.0) (told_word r (view_of t)))

-- the next operation that is none of a look
abbrev pub going_op : Parts → Option WordOp
going_op c = if is_running c then op_by (present_task c) else Some (Load Want)

-- in a phase
abbrev pub phase_op : Parts → Phase → Option WordOp
phase_op c Going = if is_looking c then Some (Load Want) else going_op c
phase_op c Looked = going_op c
phase_op c (Answering r) = Some (Store (Ack c.cpu.0) r)
phase_op c (StoringAck r) = Some (Store (Ack c.cpu.0) (acknowledged (any_left c.tasks) r))
phase_op c (StoringQuiet r i) = told_op r (slice_get c.tasks i)
phase_op c Over = None

-- a CPU's next operation; none at its end
abbrev pub cpu_op : Parts → Option WordOp
cpu_op c = phase_op c c.phase
