-- Of which job a CPU is at its start, and when a value may be given to it.
use Rattle.std.specs.Prelude.{ℕ, ◌≡◌, List, get_or, map, IsSome}
use Rattle.std.specs.List.{AllByRecursion as Each}
use Rattle.ft_base.specs.Job.{Job, no_task}
use Rattle.ft_base.specs.Tasks.{tasks_of}
use Rattle.user_specs.specs.declared.plan.CpuPlan.{CpuPlan}
use Rattle.user_specs.specs.declared.plan.TaskPlan.{TaskPlan}
use Rattle.user_specs.specs.declared.spec.Spec.{Spec}
use Rattle.user_specs.specs.Plain.{spec_of}
use Rattle.word_map.specs.declared.shape.Shape.{Shape}
use Rattle.word_map.specs.Shapes.{shape_of}
use Rattle.word_machine.specs.Cpu.{cpu_next}
use Rattle.word_machine.specs.Laws.{CpuTakes}
use Rattle.word_machine.specs.Limits.{IsLimited}
use Rattle.cpu_core.specs.declared.parts.Parts.{Parts}
use Rattle.cpu_core.specs.Cpus.{IsFor, cpu_of}
use Rattle.cpu_core.specs.Marks.{HasRoom}
use Rattle.task_core.specs.TaskOps.{item_in}

-- what is declared for a CPU is that of this job's
pub record IsCpuOf (job : Job) (plan : CpuPlan) (cpu : ℕ) (specs : List Spec) (frames version : ℕ) (shape : Shape) : Type 0 where
  pub shape' : shape ≡ shape_of job
  pub users : map spec_of specs ≡ job.users
  pub frames' : frames ≡ job.frames
  pub version' : version ≡ job.version
  pub quantum : plan.quantum ≡ get_or job.quanta cpu 1
  pub numbers : map (λ (p : TaskPlan). p.task.0) plan.tasks.items ≡ tasks_of job cpu
  pub acts : Each (λ (p : TaskPlan). p.acts.items ≡ (get_or job.tasks p.task.0 no_task).acts) plan.tasks.items

-- The value fits the CPU's next operation, and there is room for what it marks.
pub record IsTaken (c : Parts) (v : ℕ) : Type 0 where
  pub job : Job
  pub limited : IsLimited job
  pub is_for : IsFor job c
  pub takes : CpuTakes job (cpu_of job c) v
  pub next : IsSome (cpu_next job (cpu_of job c))
  pub room : IsSome (item_in (cpu_next job (cpu_of job c))) → HasRoom c.marked
