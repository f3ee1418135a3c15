-- A CPU of code with one of its tasks changed, or at another step.
use Rattle.std.proofs.Common.{◌≡◌, ℕ, suc, ◌≤◌, length, set, slice_get, Some, refl, sym, ap, ◌∙◌, arith}
use Rattle.ft_base.specs.declared.limits.TheConstants.{ITEMS}
use Rattle.ft_base.specs.Job.{Job}
use Rattle.ft_base.specs.Tasks.{tasks_of}
use Rattle.ft_base.proofs.Small.{Each-weaker}
use Rattle.word_map.specs.Words.{at_put}
use Rattle.word_machine.specs.Cpu.{Cpu, StoringQuiet, any_has_more}
use Rattle.cpu_core.specs.declared.parts.Parts.{Parts}
use Rattle.cpu_core.specs.declared.parts.Phase.{Phase}
use Rattle.cpu_core.specs.declared.parts.Phase.TheVariants as code
use Rattle.task_core.specs.declared.task.Task.{Task}
use Rattle.cpu_core.specs.Cpus.{IsOwn, all_marked, cpu_of, number_or, numbers, phase_in}
use Rattle.cpu_core.specs.Marks.{Marks}
use Rattle.task_core.specs.States.{state_of}
use Rattle.task_core.specs.StackInvariant.{IsTaskOf}
use Rattle.cpu_core.specs.Turns.{any_left}
use Rattle.cpu_core.proofs.Lookups.{any-more, each-set, put-is}
use Rattle.cpu_core.proofs.Numbers.{number-set, numbers-set}

-- ## at another step

-- wherever it stands, it is one of the job's
pub own-at : (job : Job) (c : Parts) → IsOwn job c → (present count ack : ℕ) (phase : Phase)
    → (let d : Parts = record c { present = present; count = count; ack = ack; phase = phase } in IsOwn job d)
own-at job c k present count ack phase = record {
  setup = k.setup;
  cpu = k.cpu;
  quantum = k.quantum;
  quick = k.quick;
  numbers' = k.numbers';
  tasks = k.tasks;
  calls = k.calls;
  left = k.left;
  items = k.items;
}

-- a task has an act left where the machine's has
pub more-left : (job : Job) (c : Parts) → IsOwn job c → any_has_more job (cpu_of job c) ≡ any_left c.tasks
more-left job c k = any-more job c.cpu.0 c.tasks k.numbers'

-- ## with a task changed

-- the task at an index is changed, and so is what is marked
abbrev pub with_task : Parts → ℕ → Task → Marks → Parts
with_task c i u m = record c { tasks = set c.tasks i u; marked = m }

module _ (job : Job) (c : Parts) (k : IsOwn job c) (i : ℕ) (t u : Task) (there : slice_get c.tasks i ≡ Some t) (same : u.number ≡ t.number) (m : Marks) where
  pub changed-numbers : numbers (set c.tasks i u) ≡ tasks_of job c.cpu.0
  changed-numbers = numbers-set c.tasks i t u there same ∙ k.numbers'

  -- the CPU stands where it did
  phase-stays : (p : Phase) → phase_in (set c.tasks i u) p ≡ phase_in c.tasks p
  phase-stays code.Going = refl
  phase-stays code.Looked = refl
  phase-stays (code.Answering r) = refl
  phase-stays (code.StoringAck r) = refl
  phase-stays (code.StoringQuiet r j) = ap (λ n. StoringQuiet r n) (number-set 0 c.tasks i j t u there same)
  phase-stays code.Over = refl

  -- the machine's CPU has that task
  pub changed-is : cpu_of job (with_task c i u m) ≡ record (cpu_of job c) { tasks = at_put (cpu_of job c).tasks t.number.0 (state_of u) }
  changed-is = λ j. record {
    number = c.cpu.0;
    present = number-set (length job.tasks) c.tasks i c.present t u there same j;
    count = c.count;
    ack = c.ack;
    tasks = sym (put-is job c.cpu.0 c.tasks k.numbers' i t u there same) j;
    phase = phase-stays c.phase j;
  }

  -- it is still one of the job's
  pub changed-own : IsTaskOf job u → u.next ≤ suc (all_marked m) → all_marked c.marked ≤ all_marked m → m.left ≤ ITEMS → length m.items ≤ m.left
      → IsOwn job (with_task c i u m)
  changed-own of next more left items = record {
    setup = k.setup;
    cpu = k.cpu;
    quantum = k.quantum;
    quick = k.quick;
    numbers' = changed-numbers;
    tasks = each-set (IsTaskOf job) c.tasks i u k.tasks of;
    calls = each-set (λ x. x.next ≤ suc (all_marked m)) c.tasks i u
        (Each-weaker (λ x. x.next ≤ suc (all_marked c.marked)) (λ x. x.next ≤ suc (all_marked m)) c.tasks (λ x le. omega (arith, more)) k.calls) next;
    left = left;
    items = items;
  }

-- the same of the present task
module _ (job : Job) (c : Parts) (k : IsOwn job c) (t u : Task) (there : slice_get c.tasks c.present ≡ Some t) (same : u.number ≡ t.number) (m : Marks) where
  pub present-changed : cpu_of job (with_task c c.present u m)
      ≡ record (cpu_of job c) { tasks = at_put (cpu_of job c).tasks (cpu_of job c).present (state_of u) }
  present-changed =
      changed-is job c k c.present t u there same m
      ∙ ap (λ n. let me : Cpu = record (cpu_of job c) { tasks = at_put (cpu_of job c).tasks n (state_of u) } in me)
      (sym (ap (number_or (length job.tasks)) there))
