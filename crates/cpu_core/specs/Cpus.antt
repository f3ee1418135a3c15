-- The word machine's CPU that a CPU of code stands for.
use Rattle.std.specs.Prelude.{ℕ, suc, ◌+◌, ◌-◌, ◌≡◌, ◌<◌, ◌≤◌, true, false, ◌==◌, List, [], ◌∷◌, get_or, length, map, slice_get, Option, Some, None, IsSomeAnd, if◌then◌else◌}
use Rattle.std.specs.List.{AllByRecursion as Each}
use Rattle.ft_base.specs.declared.limits.TheConstants.{ITEMS, QUANTUM}
use Rattle.ft_base.specs.Job.{Job}
use Rattle.ft_base.specs.Tasks.{tasks_of}
use Rattle.word_machine.specs.Cpu.{Cpu, Phase, Going, Looked, Answering, StoringAck, StoringQuiet, Over}
use Rattle.word_machine.specs.Task.{TaskState, task_start}
use Rattle.cpu_core.specs.declared.parts.Parts.{Parts}
use Rattle.cpu_core.specs.declared.parts.Phase.{Phase as CodePhase}
use Rattle.cpu_core.specs.declared.parts.Phase.TheVariants as code
use Rattle.task_core.specs.declared.moment.Moment.TheVariants as moment
use Rattle.task_core.specs.declared.task.Task.{Task}
use Rattle.cpu_core.specs.CpuOps.{present_task}
use Rattle.task_core.specs.Leads.{is_fetching}
use Rattle.cpu_core.specs.Marks.{Marks}
use Rattle.task_core.specs.Setups.{setup_in}
use Rattle.task_core.specs.Starts.{is_left}
use Rattle.task_core.specs.States.{state_of}
use Rattle.task_core.specs.StackInvariant.{IsTaskOf}
use Rattle.cpu_core.specs.Turns.{any_left, first_untold}

-- ## tasks

-- the task of this number, if it is one of these
abbrev pub numbered : List Task → ℕ → Option Task
numbered [] n = None
numbered (t ∷ ts) n = if t.number.0 == n then Some t else numbered ts n

-- the machine's task, or another one if there is none
abbrev pub state_or : TaskState → Option Task → TaskState
state_or otherwise None = otherwise
state_or otherwise (Some t) = state_of t

-- all tasks of a job: these as they are, any other as before its first act
abbrev pub tasks_by : Job → List Task → ℕ → TaskState
tasks_by job ts n = state_or (task_start job n) (numbered ts n)

-- the number of a task, or another one if there is none
abbrev pub number_or : ℕ → Option Task → ℕ
number_or otherwise None = otherwise
number_or otherwise (Some t) = t.number.0

-- the numbers of tasks
abbrev pub numbers : List Task → List ℕ
numbers ts = map (λ t. t.number.0) ts

-- ## the CPU

-- where the CPU stands, with these tasks
abbrev pub phase_in : List Task → CodePhase → Phase
phase_in ts code.Going = Going
phase_in ts code.Looked = Looked
phase_in ts (code.Answering r) = Answering r
phase_in ts (code.StoringAck r) = StoringAck r
phase_in ts (code.StoringQuiet r i) = StoringQuiet r (number_or 0 (slice_get ts i))
phase_in ts code.Over = Over

-- the word machine's CPU
abbrev pub cpu_of : Job → Parts → Cpu
cpu_of job c = record {
  number = c.cpu.0;
  present = number_or (length job.tasks) (present_task c);
  count = c.count;
  ack = c.ack;
  tasks = tasks_by job c.tasks;
  phase = phase_in c.tasks c.phase;
}

-- ## of which job it is the CPU

-- how many items it has marked, with those that are forgotten
abbrev pub all_marked : Marks → ℕ
all_marked m = length m.items + (ITEMS - m.left)

-- What is so of a CPU of a job wherever it stands.
--   setup, cpu, quantum, quick   it is one of the job's CPUs, and looks up what the job declares
--   numbers, tasks               its tasks are the job's
--   calls, left, items           the numbers of calls grow no faster than the items that are marked, which a history may have
pub record IsOwn (job : Job) (c : Parts) : Type 0 where
  pub setup : c.setup ≡ setup_in job
  pub cpu : c.cpu.0 < length job.quanta
  pub quantum : c.quantum ≡ get_or job.quanta c.cpu.0 1
  pub quick : c.quantum ≤ QUANTUM
  pub numbers' : numbers c.tasks ≡ tasks_of job c.cpu.0
  pub tasks : Each (IsTaskOf job) c.tasks
  pub calls : Each (λ t. t.next ≤ suc (all_marked c.marked)) c.tasks
  pub left : c.marked.left ≤ ITEMS
  pub items : length c.marked.items ≤ c.marked.left

-- one more step than the quantum is made between the two loads of a fetch
abbrev pub fetch_step : Option Task → ℕ
fetch_step None = 0
fetch_step (Some t) = if is_fetching t.moment then 1 else 0

-- A CPU in a poll, before a store.
--   before   the act of the present task has not begun
--   count    it has made at most so many steps more than the quantum
pub record IsStoring (c : Parts) (more : ℕ) : Type 0 where
  pub before : any_left c.tasks ≡ true → IsSomeAnd (present_task c) (λ t. t.moment ≡ moment.Polling)
  pub count : c.count ≤ c.quantum + more

-- within the quantum, but for the second load of a fetch
abbrev pub IsGoing : Parts → Type 0
IsGoing c = c.count ≤ c.quantum + fetch_step (present_task c)

-- the CPU stands where its tasks do; before the store of a task's word each task before it has told at most once
abbrev pub IsIn : Parts → CodePhase → Type 0
IsIn c code.Going = IsGoing c
IsIn c code.Looked = IsGoing c
IsIn c (code.Answering r) = IsGoing c
IsIn c (code.StoringAck r) = IsStoring c 1
IsIn c (code.StoringQuiet r i) = IsStoring c (2 + i) × (first_untold r c.tasks ≡ Some i)
IsIn c code.Over = any_left c.tasks ≡ false

-- A CPU of a job.
--   own       it is one of the job's
--   present   its present task has an act, as long as one has
--   phase'    it stands where its tasks and its poll do
pub record IsFor (job : Job) (c : Parts) : Type 0 where
  pub own : IsOwn job c
  pub present : any_left c.tasks ≡ true → IsSomeAnd (present_task c) (λ t. is_left t ≡ true)
  pub phase' : IsIn c c.phase
