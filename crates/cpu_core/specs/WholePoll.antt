-- A whole poll of the machine's CPU: where it begins, which words it stores, and what comes of it.
use Rattle.std.specs.Prelude.{ℕ, suc, ◌+◌, ◌≡◌, ◌==◌, Bool, true, false, List, [], ◌∷◌, Option, Some, if◌then◌else◌}
use Rattle.ft_base.specs.Job.{Job}
use Rattle.ft_base.specs.Tasks.{tasks_of}
use Rattle.grace_core.specs.Views.{has_told}
use Rattle.word_map.specs.Ops.{WordOp, Store}
use Rattle.word_map.specs.Words.{Ack, Quiet, at_put}
use Rattle.word_machine.specs.Task.{TaskState, Polling, viewed}
use Rattle.word_machine.specs.Cpu.{Cpu, Going, ack_value, any_has_more, cpu_got, with_word}

-- a poll is what the CPU does next: its present task is between two acts, or each of its tasks has ended
pub record IsBeforePoll (job : Job) (me : Cpu) : Type 0 where
  pub going : me.phase ≡ Going
  pub between : any_has_more job me ≡ true → (me.tasks me.present).moment ≡ Polling

-- the CPU after steps that gave these values
abbrev pub cpu_past : Job → Cpu → List ℕ → Cpu
cpu_past job me [] = me
cpu_past job me (v ∷ values) = cpu_past job (cpu_got job me v) values

-- the operation tells control something: by the word of a CPU or of a task
abbrev pub is_telling : Option WordOp → Bool
is_telling (Some (Store (Ack c) x)) = true
is_telling (Some (Store (Quiet t) x)) = true
is_telling _ = false

-- a task tells this request
abbrev pub tell : ℕ → (ℕ → TaskState) → ℕ → ℕ → TaskState
tell r tasks t = at_put tasks t (with_word r (tasks t))

-- those of these tasks do whose word doesn't hold that already, one after the other
abbrev pub tell_each : ℕ → (ℕ → TaskState) → List ℕ → ℕ → TaskState
tell_each r tasks [] = tasks
tell_each r tasks (t ∷ rest) = if has_told r (viewed (tasks t)) then tell_each r tasks rest else tell_each r (tell r tasks t) rest

-- how many they are
abbrev pub tellers : ℕ → (ℕ → TaskState) → List ℕ → ℕ
tellers r tasks [] = 0
tellers r tasks (t ∷ rest) = if has_told r (viewed (tasks t)) then tellers r tasks rest else suc (tellers r (tell r tasks t) rest)

-- the same of the CPU's own tasks
abbrev pub own_tellers : Job → Cpu → ℕ → ℕ
own_tellers job me r = tellers r me.tasks (tasks_of job me.number)

-- the stores of a poll that loaded this request: that of the CPU's own word, if that changes, and those of its tasks' words
abbrev pub stores_of : Job → Cpu → ℕ → ℕ
stores_of job me r = if me.ack == ack_value job me r then own_tellers job me r else suc (own_tellers job me r)

-- the CPU once it has acknowledged the request and each of its tasks has told; its steps are one load and the stores
abbrev pub all_told : Job → Cpu → ℕ → Cpu
all_told job me r = record me {
  count = suc (stores_of job me r) + me.count;
  ack = ack_value job me r;
  tasks = tell_each r me.tasks (tasks_of job me.number);
}
