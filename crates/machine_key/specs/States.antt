-- A state of a job's machine as a list of numbers. What the job fixes is left out, and so is the history but for its outcome so far.
use Rattle.std.specs.Prelude.{ℕ, ◌≡◌, ◌==◌, List, [], ◌∷◌, length, get_or, drop, slice_get, Option, Some, None, if◌then◌else◌}
use mathlib.Core.Path.{refl}
use Rattle.ft_base.specs.declared.context.Ctx.{Ctx}
use Rattle.ft_base.specs.declared.item.Item.{Item}
use Rattle.ft_base.specs.Desk.{desk}
use Rattle.ft_base.specs.Job.{Job, no_task}
use Rattle.word_map.specs.Contents.{mask_of}
use Rattle.word_map.specs.Places.{words_in}
use Rattle.word_map.specs.Shapes.{shape_of}
use Rattle.word_machine.specs.Control.{Position}
use Rattle.word_machine.specs.Cpu.{Cpu, Phase, cpu_start}
use Rattle.word_machine.specs.Machine.{World}
use Rattle.word_machine.specs.Task.{OpenCall, Moment, TaskState, task_start}
use Rattle.word_machine.specs.Values.{copies_in}
use Rattle.job_outcomes.specs.Jobs.{outcome_at}
use Rattle.job_outcomes.specs.Outcomes.{Outcome}
use Rattle.machine_key.specs.Codings.{Coding, number, pair, list, made_of}
use Rattle.machine_key.specs.Codes.{ctx, open_call, moment, position, phase, outcome_code}

-- a task that is no more as it was before its first act: its number, and how it is
pub record TaskParts : Type 0 where
  pub task : ℕ
  pub next : ℕ
  pub gone : ℕ
  pub contexts : List Ctx
  pub stack : List OpenCall
  pub word : ℕ
  pub moment : Moment

pub record CpuParts : Type 0 where
  pub present : ℕ
  pub count : ℕ
  pub ack : ℕ
  pub tasks : List TaskParts
  pub phase : Phase

-- control; its lines are the job's but for the first so many
pub record ControlParts : Type 0 where
  pub commands_done : ℕ
  pub line : ℕ
  pub request : ℕ
  pub copies : List ℕ
  pub order : List ℕ
  pub position : Position

pub record Parts : Type 0 where
  pub words : List ℕ
  pub control : ControlParts
  pub cpus : List CpuParts
  pub outcome : Outcome

-- ## the state that they stand for

abbrev pub task_in : Job → TaskParts → TaskState
task_in job p = record {
  next = p.next;
  acts = drop p.gone (get_or job.tasks p.task no_task).acts;
  gone = p.gone;
  contexts = p.contexts;
  stack = p.stack;
  word = p.word;
  moment = p.moment;
}

-- these tasks, and any other as before its first act
abbrev pub tasks_in : Job → List TaskParts → ℕ → TaskState
tasks_in job [] t = task_start job t
tasks_in job (p ∷ ps) t = if p.task == t then task_in job p else tasks_in job ps t

abbrev pub cpu_in : Job → ℕ → Option CpuParts → Cpu
cpu_in job c None = cpu_start job c
cpu_in job c (Some p) = record { number = c; present = p.present; count = p.count; ack = p.ack; tasks = tasks_in job p.tasks; phase = p.phase }

-- the state, after these items
abbrev pub world_in : Job → List Item → Parts → World
world_in job past p = record {
  words = words_in (shape_of job) (mask_of (desk job 0) (length job.tasks)) p.words;
  control = record {
    commands_done = p.control.commands_done;
    remaining = drop p.control.line job.ctls;
    request = p.control.request;
    copies = copies_in p.control.copies;
    order = p.control.order;
    position = p.control.position;
  };
  cpus = λ c. cpu_in job c (slice_get p.cpus c);
  past = past;
}

-- ## their code

abbrev pub task_parts : Coding TaskParts
task_parts =
    made_of (pair number (pair number (pair number (pair (list ctx) (pair (list open_call) (pair number moment)))))) (λ t. (t.task, (t.next, (t.gone, (t.contexts, (t.stack, (t.word, t.moment)))))))
    (λ x. record { task = x.0; next = x.1.0; gone = x.1.1.0; contexts = x.1.1.1.0; stack = x.1.1.1.1.0; word = x.1.1.1.1.1.0; moment = x.1.1.1.1.1.1 })
    (λ t. refl)

abbrev pub cpu_parts : Coding CpuParts
cpu_parts =
    made_of (pair number (pair number (pair number (pair (list task_parts) phase)))) (λ c. (c.present, (c.count, (c.ack, (c.tasks, c.phase)))))
    (λ x. record { present = x.0; count = x.1.0; ack = x.1.1.0; tasks = x.1.1.1.0; phase = x.1.1.1.1 }) (λ c. refl)

abbrev pub control_parts : Coding ControlParts
control_parts =
    made_of (pair number (pair number (pair number (pair (list number) (pair (list number) position))))) (λ k. (k.commands_done, (k.line, (k.request, (k.copies, (k.order, k.position))))))
    (λ x. record { commands_done = x.0; line = x.1.0; request = x.1.1.0; copies = x.1.1.1.0; order = x.1.1.1.1.0; position = x.1.1.1.1.1 })
    (λ k. refl)

abbrev pub parts : Coding Parts
parts =
    made_of (pair (list number) (pair control_parts (pair (list cpu_parts) outcome_code))) (λ p. (p.words, (p.control, (p.cpus, p.outcome))))
    (λ x. record { words = x.0; control = x.1.0; cpus = x.1.1.0; outcome = x.1.1.1 }) (λ p. refl)

-- these numbers are a code of the state: of parts that stand for it, with the outcome of its history
abbrev pub IsCode : Job → World → List ℕ → Type 0
IsCode job s code = (p : Parts) × (world_in job s.past p ≡ s) × (p.outcome ≡ outcome_at job s) × (parts.numbers p ≡ code)
