-- What a script declares of users, tasks and CPUs as plain data: records of numbers and lists.
use Rattle.std.specs.Prelude.{ℕ, List, map, string_bytes}
use Rattle.ft_base.specs.declared.task.TaskAct.{TaskAct}
use Rattle.ft_base.specs.Job.{Spec as PlainSpec}
use Rattle.user_specs.specs.declared.spec.Spec.{Spec}
use Rattle.user_specs.specs.declared.plan.TaskPlan.{TaskPlan}
use Rattle.user_specs.specs.declared.plan.CpuPlan.{CpuPlan}

-- a user, with its name as bytes
abbrev pub spec_of : Spec → PlainSpec
spec_of s = record { name = string_bytes s.name; kind = s.kind; regs = s.regs; ipmodify = s.ipmodify; pid = s.pid; act = s.act }

-- a declared task: its number, its pid and its acts
pub record DeclaredTask : Type 0 where
  pub task : ℕ
  pub pid : ℕ
  pub acts : List TaskAct

-- a declared CPU: its quantum and its tasks
pub record DeclaredCpu : Type 0 where
  pub quantum : ℕ
  pub tasks : List DeclaredTask

-- the task of a plan
abbrev pub task_of : TaskPlan → DeclaredTask
task_of plan = record { task = plan.task.0; pid = plan.pid; acts = plan.acts.items }

-- the CPU of a plan
abbrev pub cpu_of : CpuPlan → DeclaredCpu
cpu_of plan = record { quantum = plan.quantum; tasks = map task_of plan.tasks.items }
