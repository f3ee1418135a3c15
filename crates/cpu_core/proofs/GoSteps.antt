-- What is so of a CPU of a job that is at its tasks, and that its steps since the last switch are counted.
use Rattle.std.proofs.Common.{cond, ◌≡◌, ℕ, suc, ◌+◌, ◌<◌, ◌≤◌, ◌^◌, Bool, true, false, ◌==◌, List, [], ◌∷◌, length, Some, None, lt-ltb, refl, ap, subst, arith}
use Rattle.std.specs.Prelude.{Option, IsSome, IsSomeAnd}
use Rattle.std.proofs.lemmas.Bool.{not-false, not-true}
use Rattle.std.proofs.lemmas.List.{length-map}
use Rattle.std.proofs.lemmas.Option.{slice_get_within}
use Rattle.ft_base.specs.declared.limits.TheConstants.{TASKS}
use Rattle.ft_base.specs.Job.{Job, Task as JobTask}
use Rattle.ft_base.specs.Tasks.{tasks_from}
use Rattle.ft_base.proofs.Small.{false_true}
use Rattle.word_machine.specs.Cpu.{cpu_next, phase_op}
use Rattle.word_machine.specs.Limits.{IsLimited}
use Rattle.cpu_core.specs.declared.parts.Parts.{Parts}
use Rattle.cpu_core.specs.declared.parts.Phase.{Phase}
use Rattle.cpu_core.specs.declared.parts.Phase.TheVariants as code
use Rattle.task_core.specs.declared.moment.Moment.{Moment}
use Rattle.task_core.specs.declared.moment.Moment.TheVariants.{Polling}
use Rattle.task_core.specs.declared.task.Task.{Task}
use Rattle.cpu_core.specs.CpuOps.{is_running, present_task, runs}
use Rattle.cpu_core.specs.Cpus.{IsFor, IsIn, cpu_of, fetch_step, phase_in}
use Rattle.task_core.specs.Leads.{is_fetching}
use Rattle.task_core.specs.Starts.{is_left}
use Rattle.task_core.specs.States.{is_polling}
use Rattle.task_core.specs.StackInvariant.{IsTaskOf}
use Rattle.cpu_core.specs.Turns.{any_left}
use Rattle.cpu_core.proofs.CpuNext.{left-any, task-for}
use Rattle.task_core.proofs.ActsLeft.{act-left}
use Rattle.cpu_core.proofs.Untold.{untold-there}

-- ## the present task

-- if a task makes the next operation, it is there and isn't before a poll
pub record IsRunning (o : Option Task) : Type 0 where
  pub task : Task
  pub is : o ≡ Some task
  pub other : is_polling task.moment ≡ false

pub running : (o : Option Task) → runs o ≡ true → IsRunning o
running None r = false_true r
running (Some t) r = record { task = t; is = refl; other = not-true (is_polling t.moment) r }

before-poll : (m : Moment) → is_polling m ≡ true → m ≡ Polling
before-poll Polling e = refl
before-poll _ e = false_true e

-- a task that has an act is before a poll if it doesn't make the next operation
waiting-at : (o : Option Task) → runs o ≡ false → IsSomeAnd o (λ t. is_left t ≡ true) → IsSomeAnd o (λ t. t.moment ≡ Polling)
waiting-at None r has = absurd has
waiting-at (Some t) r has = before-poll t.moment (not-false (is_polling t.moment) r)

-- a task that isn't before a poll has an act left
pub running-left : (job : Job) (t : Task) → IsTaskOf job t → is_polling t.moment ≡ false → is_left t ≡ true
running-left job t k other = lt-ltb t.acts.gone (length t.acts.all) (act-left job t k other)

-- ## a CPU at its tasks

module _ (job : Job) (c : Parts) (k : IsFor job c) (going : c.phase ≡ code.Going) where
  pub going-count : c.count ≤ c.quantum + fetch_step (present_task c)
  going-count = subst (λ p. IsIn c p) going k.phase'

  -- the task that makes the next operation has an act left
  pub running-any : is_running c ≡ true → any_left c.tasks ≡ true
  running-any r =
      let there = running (present_task c) r in
      let of : IsTaskOf job there.task = task-for job c k c.present there.task there.is in
      left-any c.tasks c.present there.task there.is (running-left job there.task of there.other)

  -- where it doesn't run, the present task is before a poll, if it is to have one
  pub waiting : is_running c ≡ false → any_left c.tasks ≡ true → IsSomeAnd (present_task c) (λ t. t.moment ≡ Polling)
  waiting r any = waiting-at (present_task c) r (k.present any)

-- ## the steps since the last switch

fetch-step : (o : Option Task) → fetch_step o ≤ 1
fetch-step None = omega arith
fetch-step (Some t) = by (is_fetching t.moment)
  where
    by : (b : Bool) → cond b 1 0 ≤ 1
    by true = omega arith
    by false = omega arith

-- a CPU has no more tasks than the job
few-tasks : (c n : ℕ) (ts : List JobTask) → length (tasks_from c n ts) ≤ length ts
few-tasks c n [] = omega arith
few-tasks c n (t ∷ ts) = by (t.cpu == c) (few-tasks c (suc n) ts)
  where
    by : (b : Bool) → length (tasks_from c (suc n) ts) ≤ length ts
        → length (cond b (n ∷ tasks_from c (suc n) ts) (tasks_from c (suc n) ts)) ≤ suc (length ts)
    by true few = omega arith
    by false few = omega arith

pub count-fits : (job : Job) (c : Parts) → IsLimited job → IsFor job c → IsSome (cpu_next job (cpu_of job c)) → suc c.count < 2 ^ 32
unfolding cpu_next
count-fits job c limited k next = by c.phase k.phase' next
  where
    few : length c.tasks ≤ TASKS
    few = omega (arith, length-map c.tasks (λ t. t.number.0), ap length k.own.numbers', few-tasks c.cpu.0 0 job.tasks, limited.counts.few_tasks)

    by : (p : Phase) → IsIn c p → IsSome (phase_op job (cpu_of job c) (phase_in c.tasks p)) → suc c.count < 2 ^ 32
    by code.Going is some = omega (arith, is, fetch-step (present_task c), k.own.quick)
    by code.Looked is some = omega (arith, is, fetch-step (present_task c), k.own.quick)
    by (code.Answering r) is some = omega (arith, is, fetch-step (present_task c), k.own.quick)
    by (code.StoringAck r) is some = omega (arith, is.count, k.own.quick)
    by (code.StoringQuiet r i) is some =
        let t = untold-there r c.tasks i is.1 in
        let lt : i < length c.tasks = slice_get_within c.tasks i t.0 t.1 in
        omega (arith, is.0.count, lt, few, k.own.quick)
    by code.Over is some = false_true some
