-- A CPU: its tasks, which of them runs, its polls, its next operation, and what the value that the operation gives makes of it.
use Rattle.std.specs.Prelude.{ℕ, suc, Bool, false, not, ◌||◌, ◌&&◌, ◌==◌, nat_lt, nat_le, List, [], ◌∷◌, ◌++◌, length, get_or, Option, Some, None, if◌then◌else◌}
use Rattle.std.specs.List.{filter, list_any}
use Rattle.ft_base.specs.declared.task.TaskAct.{TaskAct}
use Rattle.ft_base.specs.declared.task.TaskAct.TheVariants.{After}
use Rattle.ft_base.specs.Job.{Job}
use Rattle.ft_base.specs.Tasks.{has_acts, tasks_of}
use Rattle.ft_base.specs.Versions.{has_looks}
use Rattle.word_map.specs.Words.{Want, Ack, Quiet, at_put}
use Rattle.word_map.specs.Contents.{returned_at}
use Rattle.word_map.specs.Ops.{WordOp, Load, Store}
use Rattle.grace_core.specs.Views.{acknowledged, has_told}
use Rattle.word_machine.specs.Task.{TaskState, Moment, Polling, First, task_op, task_got, task_start, is_fetching, viewed, quiet_word, begun_act, is_open_to_requests}

-- where a CPU stands: at its present task; after a look that found nothing new, before the task's step; in a look that loaded this request,
-- before its store; in a poll that loaded this request (before the store of its own word, or of the word of a task); or at its end
pub data Phase : Type 0 where
  Going : Phase
  Looked : Phase
  Answering : (r : ℕ) → Phase
  StoringAck : (r : ℕ) → Phase
  StoringQuiet : (r t : ℕ) → Phase
  Over : Phase

-- a CPU: its number, its present task or a number that no task has, its steps since the last switch, what its own word holds, its
-- tasks, and where it stands. Of the tasks only those on this CPU ever change
pub record Cpu : Type 0 where
  pub number : ℕ
  pub present : ℕ
  pub count : ℕ
  pub ack : ℕ
  pub tasks : ℕ → TaskState
  pub phase : Phase

-- ## which task runs

-- a task has an act left
abbrev pub has_more : (ℕ → TaskState) → ℕ → Bool
has_more tasks t = has_acts (tasks t).acts

-- the first of these tasks that passes, or else this one
abbrev pub first_of : (ℕ → Bool) → ℕ → List ℕ → ℕ
first_of p otherwise [] = otherwise
first_of p otherwise (t ∷ rest) = if p t then t else first_of p otherwise rest

-- a task of the CPU has an act left
abbrev pub any_has_more : Job → Cpu → Bool
any_has_more job me = list_any (λ t. has_more me.tasks t) (tasks_of job me.number)

-- the next task of the CPU in the cyclic order of numbers that has an act left; that may be the same
abbrev pub next_task : Job → Cpu → ℕ
next_task job me =
    first_of (λ t. has_more me.tasks t) me.present
    (filter (λ v. nat_lt me.present v) (tasks_of job me.number) ++ filter (λ v. nat_le v me.present) (tasks_of job me.number))

-- after a step that leaves no fetch and no poll halfway: the CPU switches if its task has ended, or waits, or has used up the quantum
abbrev pub switched : Job → Bool → Cpu → Cpu
switched job unmet me =
    if not (has_more me.tasks me.present) || unmet || nat_le (get_or job.quanta me.number 1) me.count
    then record me { present = next_task job me; count = 0 }
    else me

-- one more step since the last switch
abbrev pub ticked : Cpu → Cpu
ticked me = record me { count = suc me.count }

-- ## a poll

-- what a poll acknowledges: the request that it loaded, or all ones once every task has ended
abbrev pub ack_value : Job → Cpu → ℕ → ℕ
ack_value job me r = acknowledged (any_has_more job me) r

-- the first of these tasks whose quiet word is to change
abbrev pub quiet_next : (ℕ → TaskState) → ℕ → List ℕ → Option ℕ
quiet_next tasks r [] = None
quiet_next tasks r (t ∷ rest) = if has_told r (viewed (tasks t)) then quiet_next tasks r rest else Some t

-- a poll is over: the present task's act begins, or, if every task has ended, the CPU is at its end
abbrev pub polled : Job → Cpu → Cpu
polled job me =
    if any_has_more job me
    then switched job false (record me { tasks = at_put me.tasks me.present (begun_act (me.tasks me.present) (me.tasks me.present).acts); phase = Going })
    else record me { phase = Over }

-- the next quiet word that is to change, or the end of the poll
abbrev pub quiet_in : Job → Cpu → ℕ → Option ℕ → Cpu
quiet_in job me r None = polled job me
quiet_in job me r (Some t) = record me { phase = StoringQuiet r t }

-- after the store of the CPU's own word, and after each store of a quiet word
abbrev pub poll_on : Job → Cpu → ℕ → Cpu
poll_on job me r = quiet_in job me r (quiet_next me.tasks r (tasks_of job me.number))

-- after the load of the request: the CPU's own word is stored if it changes
abbrev pub polling : Job → Cpu → ℕ → Cpu
polling job me r = if me.ack == ack_value job me r then poll_on job me r else record me { phase = StoringAck r }

-- a task whose quiet word is stored
abbrev pub with_word : ℕ → TaskState → TaskState
with_word r x = record x { word = quiet_word r x }

-- ## a look

-- from version 3 on a CPU answers requests before the steps of its tasks, as a kernel's CPU takes an interrupt between any two instructions
abbrev pub takes_looks : Job → Bool
takes_looks job = has_looks job.version

-- a task is at a step before which its CPU looks
abbrev pub is_looked_before : TaskState → Bool
is_looked_before x = is_open_to_requests x x.moment

-- the CPU looks for a request before it goes on
abbrev pub looks : Job → Cpu → Bool
looks job me = takes_looks job && any_has_more job me && is_looked_before (me.tasks me.present)

-- after a look's load: a request that is new is answered, and otherwise the task's step comes next
abbrev pub looked : Cpu → ℕ → Cpu
looked me r = record me { phase = if me.ack == r then Looked else Answering r }

-- ## steps

-- the next operation of the present task, which has an act left: a poll loads the last request
abbrev pub present_op : Cpu → Moment → Option WordOp
present_op me Polling = Some (Load Want)
present_op me m = task_op me.present (me.tasks me.present) m

-- the same of a CPU; one last poll follows the last act
abbrev pub going_op : Job → Cpu → Option WordOp
going_op job me = if any_has_more job me then present_op me (me.tasks me.present).moment else Some (Load Want)

-- the next operation in a phase
abbrev pub phase_op : Job → Cpu → Phase → Option WordOp
phase_op job me Going = if looks job me then Some (Load Want) else going_op job me
phase_op job me Looked = going_op job me
phase_op job me (Answering r) = Some (Store (Ack me.number) r)
phase_op job me (StoringAck r) = Some (Store (Ack me.number) (ack_value job me r))
phase_op job me (StoringQuiet r t) = Some (Store (Quiet t) (quiet_word r (me.tasks t)))
phase_op job me Over = None

-- a wait of the task that is not met by this clock
abbrev pub is_unmet : Moment → List TaskAct → ℕ → Bool
is_unmet First (After n ∷ rest) v = not (nat_le n (returned_at v))
is_unmet m acts v = false

-- the present task has made a step, and perhaps the CPU switches; never between the two loads of a fetch
abbrev pub moved : Job → Cpu → Bool → TaskState → Cpu
moved job me unmet x =
    let me' = record me { tasks = at_put me.tasks me.present x } in
    if is_fetching x.moment then me' else switched job unmet me'

-- after the present task's operation gave a value
abbrev pub present_got : Job → Cpu → Moment → ℕ → Cpu
present_got job me Polling v = polling job me v
present_got job me m v =
    let x = me.tasks me.present in moved job me (is_unmet m x.acts v) (task_got job me.present x m v)

-- after a CPU's operation outside a poll and a look gave a value
abbrev pub going_got : Job → Cpu → ℕ → Cpu
going_got job me v = if any_has_more job me then present_got job me (me.tasks me.present).moment v else polling job me v

-- after the operation in a phase gave a value; a look's steps don't count since the last switch
abbrev pub phase_got : Job → Cpu → Phase → ℕ → Cpu
phase_got job me Going v = if looks job me then looked me v else going_got job (ticked me) v
phase_got job me Looked v = going_got job (record (ticked me) { phase = Going }) v
phase_got job me (Answering r) v = record me { ack = r; phase = Going }
phase_got job me (StoringAck r) v = poll_on job (record (ticked me) { ack = ack_value job me r }) r
phase_got job me (StoringQuiet r t) v = poll_on job (record (ticked me) { tasks = at_put me.tasks t (with_word r (me.tasks t)) }) r
phase_got job me Over v = me

-- a CPU's next operation; none at its end
unfoldable pub cpu_next : Job → Cpu → Option WordOp
cpu_next job me = phase_op job me me.phase

-- a CPU after its next operation gave this value
unfoldable pub cpu_got : Job → Cpu → ℕ → Cpu
cpu_got job me v = phase_got job me me.phase v

-- a CPU before its first step
abbrev pub cpu_start : Job → ℕ → Cpu
cpu_start job c = record {
  number = c;
  present = first_of (λ t. has_more (task_start job) t) (length job.tasks) (tasks_of job c);
  count = 0;
  ack = 0;
  tasks = task_start job;
  phase = Going;
}
