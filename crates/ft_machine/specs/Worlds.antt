-- The word machine's world that the words, control and CPUs of code stand for.
use Rattle.std.specs.Prelude.{ℕ, ◌≡◌, ◌+◌, ◌<◌, ◌≤◌, List, [], ◌∷◌, length, slice_get, Option, Some, None}
use Rattle.ft_base.specs.declared.item.Item.{Item}
use Rattle.ft_base.specs.declared.limits.TheConstants.{ITEMS, QUANTUM}
use Rattle.ft_base.specs.Desk.{desk}
use Rattle.ft_base.specs.Job.{Job}
use Rattle.user_specs.specs.declared.plan.CpuPlan.{CpuPlan}
use Rattle.user_specs.specs.declared.spec.Spec.{Spec}
use Rattle.word_map.specs.declared.shape.Shape.{Shape}
use Rattle.word_map.specs.Shapes.{shape_of}
use Rattle.word_map.specs.Words.{Words}
use Rattle.word_map.specs.Places.{len, words_in}
use Rattle.word_map.specs.Contents.{mask_of}
use Rattle.ft_desk.specs.declared.command.Ctl.{Ctl}
use Rattle.ft_desk.specs.Declarations.{IsOf}
use Rattle.ft_desk.specs.DeskView.{DeskView, opened}
use Rattle.word_machine.specs.Cpu.{Cpu, cpu_start}
use Rattle.word_machine.specs.Laws.{Runs, items_on, room_on}
use Rattle.word_machine.specs.Limits.{IsLimited}
use Rattle.word_machine.specs.Machine.{World}
use Rattle.ft_desk.specs.Lines.{lines_of}
use Rattle.control_core.specs.Seated.{Seated, control_of}
use Rattle.control_core.specs.Seated as control
use Rattle.cpu_core.specs.declared.parts.Parts.{Parts as CpuParts}
use Rattle.cpu_core.specs.Cpus.{cpu_of}
use Rattle.cpu_core.specs.Cpus as cpu
use Rattle.cpu_core.specs.Taken.{IsCpuOf}
use Rattle.ft_machine.specs.declared.cpus.TaskLimits.{TaskLimits}

-- the shape of the words, the words, control, and the CPUs
pub record Parts : Type 0 where
  pub shape : Shape
  pub words : List ℕ
  pub control : Seated
  pub cpus : List CpuParts

-- ## the world

-- the items so far, the latest first, after a step that has marked this one or none
abbrev pub marked_on : Option Item → List Item → List Item
marked_on None past = past
marked_on (Some item) past = item ∷ past

-- the word machine's words; one that the job doesn't have is as at the start
abbrev pub words_of : Job → List ℕ → Words
words_of job list = words_in (shape_of job) (mask_of (desk job 0) (length job.tasks)) list

-- the machine's CPU, or another one if there is none
abbrev pub cpu_or : Job → Cpu → Option CpuParts → Cpu
cpu_or job otherwise None = otherwise
cpu_or job otherwise (Some c) = cpu_of job c

-- the machine's CPUs; one that the job doesn't have is as at the start
abbrev pub cpus_of : Job → List CpuParts → ℕ → Cpu
cpus_of job cpus c = cpu_or job (cpu_start job c) (slice_get cpus c)

-- the world after these items, the latest first: the machine itself keeps none
abbrev pub world_of : Job → List Item → Parts → World
world_of job past w = record {
  words = words_of job w.words;
  control = control_of w.control;
  cpus = cpus_of job w.cpus;
  past = past;
}

-- ## of which job it is the machine

-- CPU c of a job after these items.
--   none   what it marked was handed on, and isn't in its list
--   left   the items of its tasks so far are those that it can mark no more, of all that a history may have
--   room   it has room for one, if its tasks can mark any
pub record IsCpuAt (job : Job) (past : List Item) (c : ℕ) (x : CpuParts) : Type 0 where
  pub is_for : cpu.IsFor job x
  pub number : x.cpu.0 ≡ c
  pub none : x.marked.items ≡ []
  pub left : x.marked.left + items_on job c past ≡ ITEMS
  pub room : 0 < room_on job c → 0 < x.marked.room

-- The machine of a job after these items.
--   none   what control marked was handed on, and isn't in its list
pub record IsFor (job : Job) (past : List Item) (w : Parts) : Type 0 where
  pub shape' : w.shape ≡ shape_of job
  pub count : length w.words ≡ len (shape_of job)
  pub control' : control.IsFor job w.control
  pub none : w.control.items ≡ []
  pub cpus' : length w.cpus ≡ length job.quanta
  pub each : (c : ℕ) (x : CpuParts) → slice_get w.cpus c ≡ Some x → IsCpuAt job past c x

-- ## what it keeps

-- the machine of some job after some items, whose world runs
pub record IsRunning (w : Parts) : Type 0 where
  pub job : Job
  pub past : List Item
  pub limited : IsLimited job
  pub is_for : IsFor job past w
  pub runs : Runs job (world_of job past w)

-- ## at the start

-- what is declared for the machine of a job
pub record Declares (job : Job) (d : DeskView) (ctls : List Ctl) (plans : List CpuPlan) (specs : List Spec) (limits : TaskLimits) (shape : Shape) : Type 0 where
  pub limited : IsLimited job
  pub desk' : d ≡ opened d.declared
  pub of' : IsOf job d.declared
  pub shape' : shape ≡ shape_of job
  pub lines : lines_of shape.tasks ctls ≡ job.ctls
  pub cpus : length plans ≡ length job.quanta
  pub each : (c : ℕ) (p : CpuPlan) → slice_get plans c ≡ Some p → IsCpuOf job p c specs limits.frames limits.version shape × (p.quantum ≤ QUANTUM)
