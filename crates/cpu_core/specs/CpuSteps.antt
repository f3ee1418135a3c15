-- A CPU after its next operation gave a value, by what contracts see of it.
use Rattle.std.specs.Prelude.{ℕ, suc, Bool, false, not, ◌||◌, ◌==◌, nat_le, List, [], ◌∷◌, ◌++◌, set, slice_get, Option, Some, None, if◌then◌else◌}
use Rattle.ft_base.specs.declared.item.Item.{Item}
use Rattle.ft_base.specs.declared.item.Stamped.{Stamped}
use Rattle.grace_core.specs.Views.{acknowledged}
use Rattle.word_map.specs.Contents.{low}
use Rattle.word_map.specs.Ops.{WordOp}
use Rattle.cpu_core.specs.declared.parts.Parts.{Parts}
use Rattle.cpu_core.specs.declared.parts.Phase.{Phase}
use Rattle.cpu_core.specs.declared.parts.Phase.TheVariants.{Going, Looked, Answering, StoringAck, StoringQuiet, Over}
use Rattle.task_core.specs.declared.task.Task.{Task}
use Rattle.cpu_core.specs.CpuOps.{is_looking, is_running, present_task}
use Rattle.task_core.specs.Leads.{is_fetching}
use Rattle.task_core.specs.Starts.{is_left, is_unmet}
use Rattle.task_core.specs.TaskOps.{item_in, op_of, present}
use Rattle.task_core.specs.TaskSteps.{begun, task_after}
use Rattle.cpu_core.specs.Turns.{any_left, first_untold, next_left, told_task}

-- ## which task runs

-- a task that has ended, waits, or has used up the quantum makes room for the next one
abbrev pub switched_from : Parts → Bool → Option Task → Parts
switched_from c unmet None = c
switched_from c unmet (Some t) =
    if not (is_left t) || (unmet || nat_le c.quantum c.count)
    then record c { present = next_left c.tasks c.present; count = 0 }
    else c

-- the same for its present task
abbrev pub switched : Parts → Bool → Parts
switched c unmet = switched_from c unmet (present_task c)

-- ## a step of the present task

-- the items of a mark at a place
abbrev pub stamped : ℕ → Option Item → List Stamped
stamped v None = []
stamped v (Some item) = record { place = low v; item = item } ∷ []

-- what an operation marks
abbrev pub marks_in : Option WordOp → ℕ → List Stamped
marks_in op v = stamped v (item_in op)

-- the task at an index is changed, and some items are marked
abbrev pub with_step : Parts → Task → List Stamped → Parts
with_step c t items = record c { tasks = set c.tasks c.present t; marked = record c.marked { items = c.marked.items ++ items } }

-- a task's operation gave a value
abbrev pub went_by : Parts → ℕ → Option Task → Parts
went_by c v None = c
went_by c v (Some t) =
    let u = task_after t c.setup v in
    let c' = with_step c u (marks_in (op_of t) v) in
    if is_fetching u.moment then c' else switched c' (is_unmet t v)

-- its present task's operation gave a value
abbrev pub went : Parts → ℕ → Parts
went c v = went_by c v (present_task c)

-- ## a poll

-- the act of a task begins
abbrev pub act_begun : Parts → Option Task → Parts
act_begun c None = c
act_begun c (Some t) = record c { tasks = set c.tasks c.present (begun t (present t)) }

-- a poll is over: the present task's act begins, or, if every task has ended, the CPU is at its end
abbrev pub after_poll : Parts → Parts
after_poll c =
    if any_left c.tasks
    then (let c' = record c { phase = Going } in switched (act_begun c' (present_task c')) false)
    else record c { phase = Over }

-- the next word that is to change, or the end of the poll
abbrev pub telling : Parts → ℕ → Option ℕ → Parts
telling c r None = after_poll c
telling c r (Some i) = record c { phase = StoringQuiet r i }

-- after the store of the CPU's own word, and after each store of a task's
abbrev pub poll_on : Parts → ℕ → Parts
poll_on c r = telling c r (first_untold r c.tasks)

-- after the load of the request: the CPU's own word is stored if it changes
abbrev pub polling : Parts → ℕ → Parts
polling c r = if c.ack == acknowledged (any_left c.tasks) r then poll_on c r else record c { phase = StoringAck r }

-- the CPU's own word is stored
abbrev pub acked : Parts → ℕ → Parts
acked c r = record c { ack = acknowledged (any_left c.tasks) r }

-- the word of a task is stored
abbrev pub told_by : Parts → ℕ → ℕ → Option Task → Parts
told_by c r i None = c
told_by c r i (Some t) = record c { tasks = set c.tasks i (told_task r t) }

-- the word of the task at an index is stored
abbrev pub with_told : Parts → ℕ → ℕ → Parts
with_told c r i = told_by c r i (slice_get c.tasks i)

-- ## all of it

-- one more step since the last switch
abbrev pub ticked : Parts → Parts
ticked c = record c { count = suc c.count }

-- an operation that is none of a look
abbrev pub gone_on : Parts → ℕ → Parts
gone_on c v = if is_running c then went c v else polling c v

-- the load of a look: a request that is new is answered, and otherwise the task's step comes next
abbrev pub looked : Parts → ℕ → Parts
looked c r = record c { phase = if c.ack == r then Looked else Answering r }

-- the store of a look
abbrev pub answered : Parts → ℕ → Parts
answered c r = record c { ack = r; phase = Going }

-- the operation in a phase; the steps of a look don't count since the last switch
abbrev pub stepped_in : Parts → Phase → ℕ → Parts
stepped_in c Going v = if is_looking c then looked c v else gone_on (ticked c) v
stepped_in c Looked v = gone_on (record (ticked c) { phase = Going }) v
stepped_in c (Answering r) v = answered c r
stepped_in c (StoringAck r) v = poll_on (acked (ticked c) r) r
stepped_in c (StoringQuiet r i) v = poll_on (with_told (ticked c) r i) r
stepped_in c Over v = c

-- a CPU after its next operation gave this value
abbrev pub stepped : Parts → ℕ → Parts
stepped c v = stepped_in c c.phase v

-- a CPU but for what it has marked, which is as it was before
abbrev pub unmarked : Parts → Parts → Parts
unmarked before c = record c { marked = before.marked }
