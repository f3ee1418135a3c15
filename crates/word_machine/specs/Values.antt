-- A CPU and control as values of types in code. Code holds no function, so what is a function of numbers in the definition is a list
-- here; the definition's own is read from it.
use Rattle.std.specs.Prelude.{ℕ, List, get_or}
use Rattle.ft_base.specs.Job.{Job, Ctl}
use Rattle.word_machine.specs.Control.{Control, Position}
use Rattle.word_machine.specs.Task.{TaskState, task_start}
use Rattle.word_machine.specs.Cpu.{Cpu, Phase}

-- the tasks of a list, by number; one that the list doesn't reach is as before its first act
abbrev pub tasks_in : Job → List TaskState → ℕ → TaskState
tasks_in job tasks t = get_or tasks t (task_start job t)

-- the copies of a list, by user
abbrev pub copies_in : List ℕ → ℕ → ℕ
copies_in copies u = get_or copies u 0

-- a CPU, with a list of the tasks of the job; only its own ever change
pub record CpuValue : Type 0 where
  pub number : ℕ
  pub present : ℕ
  pub count : ℕ
  pub ack : ℕ
  pub tasks : List TaskState
  pub phase : Phase

-- the CPU that the value stands for
abbrev pub cpu_in : Job → CpuValue → Cpu
cpu_in job v = record {
  number = v.number;
  present = v.present;
  count = v.count;
  ack = v.ack;
  tasks = tasks_in job v.tasks;
  phase = v.phase;
}

-- control, with a list of a copy for each user
pub record ControlValue : Type 0 where
  pub commands_done : ℕ
  pub remaining : List Ctl
  pub request : ℕ
  pub copies : List ℕ
  pub order : List ℕ
  pub position : Position

-- the control that the value stands for
abbrev pub control_in : ControlValue → Control
control_in v = record {
  commands_done = v.commands_done;
  remaining = v.remaining;
  request = v.request;
  copies = copies_in v.copies;
  order = v.order;
  position = v.position;
}
