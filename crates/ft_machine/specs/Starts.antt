-- The CPUs of a job before their first steps.
use Rattle.std.specs.Prelude.{ℕ, ◌≡◌, ◌<◌, ◌≤◌, List, length, slice_get, Some}
use Rattle.ft_base.specs.declared.limits.TheConstants.{QUANTUM}
use Rattle.ft_base.specs.Job.{Job}
use Rattle.user_specs.specs.declared.plan.CpuPlan.{CpuPlan}
use Rattle.user_specs.specs.declared.spec.Spec.{Spec}
use Rattle.word_map.specs.declared.shape.Shape.{Shape}
use Rattle.word_map.specs.Shapes.{shape_of}
use Rattle.ft_desk.specs.declared.command.Ctl.{Ctl}
use Rattle.word_machine.specs.Cpu.{cpu_start}
use Rattle.word_machine.specs.Laws.{room_on}
use Rattle.word_machine.specs.Limits.{IsLimited}
use Rattle.cpu_core.specs.declared.parts.Parts.{Parts}
use Rattle.cpu_core.specs.Cpus.{IsFor, cpu_of}
use Rattle.cpu_core.specs.Marks.{no_marks}
use Rattle.cpu_core.specs.Taken.{IsCpuOf}
use Rattle.ft_machine.specs.declared.cpus.CpuRoom.{CpuRoom}
use Rattle.ft_machine.specs.declared.cpus.CpuRoom.TheVariants.{ForOne, ForAll}
use Rattle.ft_machine.specs.declared.cpus.TaskLimits.{TaskLimits}

-- what is declared for CPU c of a job
pub record IsPlanOf (job : Job) (p : CpuPlan) (c : ℕ) (specs : List Spec) (limits : TaskLimits) (shape : Shape) : Type 0 where
  pub limited : IsLimited job
  pub inside : c < length job.quanta
  pub of' : IsCpuOf job p c specs limits.frames limits.version shape
  pub quick : p.quantum ≤ QUANTUM

-- what is declared for all its CPUs
pub record ArePlansOf (job : Job) (plans : List CpuPlan) (specs : List Spec) (limits : TaskLimits) (shape : Shape) : Type 0 where
  pub shape' : shape ≡ shape_of job
  pub count : length plans ≡ length job.quanta
  pub each : (c : ℕ) (p : CpuPlan) → slice_get plans c ≡ Some p → IsPlanOf job p c specs limits shape

-- the lists that are declared for a job: control's lines, the plans and the users
pub record AreListsOf (job : Job) (ctls : List Ctl) (plans : List CpuPlan) (specs : List Spec) (limits : TaskLimits) : Type 0 where
  pub limited : IsLimited job
  pub lines : length ctls ≡ length job.ctls
  pub shape : Shape
  pub declared : ArePlansOf job plans specs limits shape

-- how many items CPU c of a job has room for: one, or all that its tasks mark
abbrev pub own_room : CpuRoom → Job → ℕ → ℕ
own_room ForOne job c = 1
own_room ForAll job c = room_on job c

-- CPU c of a job before its first step: the machine's, which has marked nothing, and with its room
pub record IsFirst (rooms : CpuRoom) (job : Job) (c : ℕ) (x : Parts) : Type 0 where
  pub is_for : IsFor job x
  pub same : cpu_of job x ≡ cpu_start job c
  pub marked : x.marked ≡ no_marks (own_room rooms job c)

-- all its CPUs
pub record AreFirst (rooms : CpuRoom) (job : Job) (cpus : List Parts) : Type 0 where
  pub count : length cpus ≡ length job.quanta
  pub each : (c : ℕ) (x : Parts) → slice_get cpus c ≡ Some x → IsFirst rooms job c x
