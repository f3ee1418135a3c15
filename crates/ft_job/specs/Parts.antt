-- What a script declares, as plain data, and its job.
use Rattle.std.specs.Prelude.{ℕ, zero, suc, ◌≡◌, ◌≤◌, ◌==◌, List, [], ◌∷◌, length, map, sum_by, Option, Some, None, if◌then◌else◌}
use Rattle.std.specs.List.{AllByRecursion as Each}
use Rattle.ft_base.specs.declared.limits.TheConstants.{CPUS, QUANTUM}
use Rattle.ft_base.specs.declared.turn.Turn.{Turn}
use Rattle.ft_base.specs.declared.task.TaskAct.{TaskAct}
use Rattle.ft_base.specs.Job.{Func, Spec, Task, no_task, LinePlan, RingPlan, Job}
use Rattle.user_specs.specs.Plain.{DeclaredTask, DeclaredCpu, spec_of, cpu_of}
use Rattle.ft_desk.specs.declared.command.Ctl.{Ctl}
use Rattle.ft_desk.specs.Declarations.{Declared, bare}
use Rattle.ft_desk.specs.Lines.{IsLineIn, lines_of}
use Rattle.word_machine.specs.Limits.{IsLimited}
use Rattle.filter_commands.specs.Meanings.{plain_trigger}
use Rattle.ft_job.specs.declared.parts.JobParts.{JobParts}
use Rattle.ft_job.specs.Plans.{row_of, AreLinesPlanned, AreRingsPlanned}

-- the version of the language, functions, users, frames of a task's shadow stack, trampoline slots, CPUs with their tasks, control's lines,
-- the schedule, where the lines come from, and what is kept of a trace
pub record Parts : Type 0 where
  pub version : ℕ
  pub functions : List Func
  pub users : List Spec
  pub frames : ℕ
  pub tramps : ℕ
  pub cpus : List DeclaredCpu
  pub ctls : List Ctl
  pub schedule : List Turn
  pub lines : LinePlan
  pub rings : RingPlan

-- the parts that the program holds
abbrev pub parts_of : JobParts → Parts
parts_of p = record {
  version = p.version;
  functions = p.table.functions;
  users = map spec_of p.specs.items;
  frames = p.frames;
  tramps = p.tramps;
  cpus = map cpu_of p.cpus.items;
  ctls = p.ctls.items;
  schedule = p.schedule.turns.items;
  lines = record { lanes = p.lanes.items; absent = p.absent.items; modules = map row_of p.modules.items };
  rings = record { ring = p.ring; tracing = p.tracing; triggers = map plain_trigger p.triggers.items };
}

-- ## tasks by number, and by CPU

-- the quantum of each CPU
abbrev pub quanta_of : List DeclaredCpu → List ℕ
quanta_of cpus = map (λ c. c.quantum) cpus

-- the tasks of CPU c among these, which are numbered from n on
abbrev pub tasks_on : ℕ → ℕ → List Task → List DeclaredTask
tasks_on c n [] = []
tasks_on c n (t ∷ ts) = if t.cpu == c then record { task = n; pid = t.pid; acts = t.acts } ∷ tasks_on c (suc n) ts else tasks_on c (suc n) ts

-- the CPUs from c on with these quanta, and their tasks among these, which are numbered from n on
abbrev pub cpus_with : ℕ → List ℕ → ℕ → List Task → List DeclaredCpu
cpus_with c [] n ts = []
cpus_with c (q ∷ qs) n ts = record { quantum = q; tasks = tasks_on c n ts } ∷ cpus_with (suc c) qs n ts

-- the CPUs from c on with these quanta, and their tasks among all of a job
abbrev pub cpus_from : ℕ → List ℕ → List Task → List DeclaredCpu
cpus_from c qs ts = cpus_with c qs 0 ts

-- what a script says of a task beside its CPU
abbrev pub said_of : Task → ℕ × List TaskAct
said_of t = (t.pid, t.acts)

-- the task of this number among those of CPU c
abbrev pub found_on : ℕ → ℕ → List DeclaredTask → Option Task
found_on n c [] = None
found_on n c (t ∷ ts) = if t.task == n then Some (record { pid = t.pid; cpu = c; acts = t.acts }) else found_on n c ts

-- the first of two that is there
abbrev pub or_else : Option Task → Option Task → Option Task
or_else None other = other
or_else (Some t) other = Some t

-- the task of this number among those of the CPUs from c on
abbrev pub found_in : ℕ → ℕ → List DeclaredCpu → Option Task
found_in n c [] = None
found_in n c (x ∷ xs) = or_else (found_on n c x.tasks) (found_in n (suc c) xs)

-- the task that was found
abbrev pub or_none : Option Task → Task
or_none None = no_task
or_none (Some t) = t

-- this many tasks, from this number on
abbrev pub tasks_up : List DeclaredCpu → ℕ → ℕ → List Task
tasks_up cpus n zero = []
tasks_up cpus n (suc k) = or_none (found_in n 0 cpus) ∷ tasks_up cpus (suc n) k

-- how many tasks the CPUs have
abbrev pub task_count : List DeclaredCpu → ℕ
task_count cpus = sum_by (λ c. length c.tasks) cpus

-- all tasks of the CPUs, by number
abbrev pub tasks_of : List DeclaredCpu → List Task
tasks_of cpus = tasks_up cpus 0 (task_count cpus)

-- ## the job

-- the job of a script
unfoldable pub job_of : Parts → Job
job_of p = record {
  version = p.version;
  functions = p.functions;
  users = p.users;
  frames = p.frames;
  tramps = p.tramps;
  quanta = quanta_of p.cpus;
  tasks = tasks_of p.cpus;
  ctls = lines_of (task_count p.cpus) p.ctls;
  schedule = p.schedule;
  lines = p.lines;
  rings = p.rings;
}

-- what the lines of control may name
abbrev pub declared_of : Parts → Declared
declared_of p = record { specs = map bare p.users; funcs = length p.functions; tasks = task_count p.cpus; tramps = p.tramps }

-- What the machine asks of a script's parts.
--   numbered   the CPUs' tasks are those of the job, which are numbered over all CPUs
--   limited    the job is within the limits of scripts
--   lines      the lines of control name users and tasks that there are, and each edit has a set of the functions
--   cpus       there are no more CPUs than a script may have
--   quanta     each has a quantum within its limit
--   planned    its lanes and modules are among those that there are
--   rings      its ring and its triggers are within their limits
pub record IsWithin (p : Parts) : Type 0 where
  pub numbered : cpus_from 0 (quanta_of p.cpus) (tasks_of p.cpus) ≡ p.cpus
  pub limited : IsLimited (job_of p)
  pub lines : Each (IsLineIn (declared_of p)) p.ctls
  pub cpus : length p.cpus ≤ CPUS
  pub quanta : Each (λ q. q ≤ QUANTUM) (quanta_of p.cpus)
  pub planned : AreLinesPlanned (job_of p)
  pub rings : AreRingsPlanned (job_of p)
