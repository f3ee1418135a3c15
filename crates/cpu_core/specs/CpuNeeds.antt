-- What a CPU's operation asks: that its words are there, that there is room, and that the value fits.
use Rattle.std.specs.Prelude.{ℕ, suc, ◌≡◌, ◌<◌, ◌^◌, true, false, List, length, slice_get, Some, IsSome, IsSomeAnd}
use Rattle.word_map.specs.Contents.{greatest_half}
use Rattle.cpu_core.specs.declared.parts.Parts.{Parts}
use Rattle.cpu_core.specs.declared.parts.Phase.{Phase}
use Rattle.cpu_core.specs.declared.parts.Phase.TheVariants.{Going, Looked, Answering, StoringAck, StoringQuiet, Over}
use Rattle.task_core.specs.declared.task.Task.{Task}
use Rattle.cpu_core.specs.CpuOps.{is_looking, is_running, present_task}
use Rattle.cpu_core.specs.Marks.{HasRoom}
use Rattle.task_core.specs.TaskNeeds.{CanBegin, HasAct, IsTaskThere, TaskFits}
use Rattle.task_core.specs.TaskOps.{item_in, op_of, present}
use Rattle.cpu_core.specs.Turns.{any_left, first_untold}

-- ## words that are there

-- the word of the task at an index is there
pub record IsQuietThere (c : Parts) (i : ℕ) : Type 0 where
  pub within : i < length c.tasks
  pub number : IsSomeAnd (slice_get c.tasks i) (λ t. t.number.0 < c.setup.shape.tasks)

-- the word of the present task's operation is there
abbrev pub IsGoingThere : Parts → Type 0
IsGoingThere c = is_running c ≡ true → IsSomeAnd (present_task c) (IsTaskThere c.setup.shape)

-- the word of the next operation is there
abbrev pub NextAt : Parts → Phase → Type 0
NextAt c Going = IsGoingThere c
NextAt c Looked = IsGoingThere c
NextAt c (Answering r) = c.cpu.0 < c.setup.shape.cpus
NextAt c (StoringAck r) = c.cpu.0 < c.setup.shape.cpus
NextAt c (StoringQuiet r i) = IsQuietThere c i
NextAt c Over = Unit {0}

-- the word of its next operation is there, in the phase that it is in
abbrev pub HasNext : Parts → Type 0
HasNext c = NextAt c c.phase

-- ## a step

-- there is a present task
abbrev pub CanSwitch : Parts → Type 0
CanSwitch c = c.present < length c.tasks

-- the present task's operation gave a value that fits it, and there is room for what it marks
pub record GoFits (c : Parts) (v : ℕ) : Type 0 where
  pub present' : c.present < length c.tasks
  pub task : IsSomeAnd (present_task c) (λ t. TaskFits c.setup t v)
  pub room : IsSomeAnd (present_task c) (λ t. IsSome (item_in (op_of t)) → HasRoom c.marked)

-- the act of the task at an index can begin
pub record CanBeginAct (ts : List Task) (n : ℕ) : Type 0 where
  pub present' : n < length ts
  pub act : IsSomeAnd (slice_get ts n) (λ t. HasAct t × CanBegin t (present t))

-- after a poll the present task's act can begin, if an act is left
abbrev pub CanGoOn : Parts → Type 0
CanGoOn c = any_left c.tasks ≡ true → CanBeginAct c.tasks c.present

-- a poll can begin with this request, which is not what an ended task tells
pub record StartFits (c : Parts) (v : ℕ) : Type 0 where
  pub fits : v < greatest_half
  pub act : CanGoOn c

-- the task at this index is the first that is to tell
pub record QuietFits (c : Parts) (r i : ℕ) : Type 0 where
  pub within : i < length c.tasks
  pub first : first_untold r c.tasks ≡ Some i
  pub act : CanGoOn c

-- an operation that is none of a look
abbrev pub GoingFits : Parts → ℕ → Type 0
GoingFits c v = (is_running c ≡ true → GoFits c v) × (is_running c ≡ false → StartFits c v)

-- in a phase; a look loads a request
abbrev pub FitsIn : Parts → Phase → ℕ → Type 0
FitsIn c Going v = (is_looking c ≡ true → v < greatest_half) × (is_looking c ≡ false → GoingFits c v)
FitsIn c Looked v = GoingFits c v
FitsIn c (Answering r) v = Unit {0}
FitsIn c (StoringAck r) v = CanGoOn c
FitsIn c (StoringQuiet r i) v = QuietFits c r i
FitsIn c Over v = Unit {0}

-- the next operation gave a value that fits it
pub record CpuFits (c : Parts) (v : ℕ) : Type 0 where
  pub count : suc c.count < 2 ^ 32
  pub phase' : FitsIn c c.phase v
