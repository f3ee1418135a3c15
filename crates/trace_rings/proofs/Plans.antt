-- The plan of a job.
use Rattle.std.proofs.Common.{◌≡◌, ℕ, zero, suc, ◌<◌, ◌≤◌, Bool, List, [], ◌∷◌, length, map, get_or, sym, ap, ◌∙◌, arith, Option, Some}
use Rattle.std.specs.Prelude.{option_map, slice_get}
use Rattle.std.specs.List.{AllByRecursion as Each}
use Rattle.std.proofs.lemmas.List.{length-map}
use Rattle.ft_base.specs.Job.{Job, Task, Trigger, no_task}
use Rattle.ft_base.specs.declared.limits.TheConstants.{CPUS}
use Rattle.user_specs.specs.Plain.{DeclaredCpu}
use Rattle.word_machine.specs.Limits.{IsLimited}
use Rattle.ft_job.specs.Parts.{quanta_of}
use Rattle.ft_job.specs.Plans.{AreRingsPlanned}
use Rattle.ring_rules.specs.Plan.{IsPlan, TracePlan, plan_of}
use Rattle.ft_base.specs.Kinds.{is_function}
use Rattle.ring_rules.proofs.Lists.{get-some}

-- each task's CPU is one of so many
each-cpu : (n : ℕ) (ts : List Task) → Each (λ t. t.cpu < n) ts → (i : ℕ) → i < length (map (λ t. t.cpu) ts) → get_or (map (λ t. t.cpu) ts) i 0 < n
each-cpu n [] all i lt = absurd (omega (arith, lt))
each-cpu n (t ∷ ts) all zero lt = all.0
each-cpu n (t ∷ ts) all (suc i) lt = each-cpu n ts all.1 i (omega (arith, lt))

-- the limits of a job are those of its plan
pub is-plan : (job : Job) → IsLimited job → AreRingsPlanned job → length job.quanta ≤ CPUS → IsPlan (plan_of job)
is-plan job limits rings few = record {
  cpus = few;
  tasks = each-cpu (length job.quanta) job.tasks limits.placed;
  triggers = rings.few;
  ring = rings.ring;
}

-- a plan of the same parts
pub plan-as : (job : Job) (cpus : ℕ) (tasks : List ℕ) (users : List Bool) (ring : ℕ) (tracing : Bool) (triggers : List Trigger)
    → cpus ≡ length job.quanta
    → tasks ≡ map (λ t. t.cpu) job.tasks → users ≡ map (λ s. is_function s.kind) job.users → ring ≡ job.rings.ring → tracing ≡ job.rings.tracing
    → triggers ≡ job.rings.triggers
    → ◌≡◌ {A = TracePlan} (record { cpus = cpus; tasks = tasks; users = users; ring = ring; tracing = tracing; triggers = triggers }) (plan_of job)
plan-as job cpus tasks users ring tracing triggers is-cpus is-tasks is-users is-ring is-tracing is-triggers =
    λ j. record { cpus = is-cpus j; tasks = is-tasks j; users = is-users j; ring = is-ring j; tracing = is-tracing j; triggers = is-triggers j }

-- as many CPUs as quanta
pub cpu-count : {A : Type 0} (f : A → DeclaredCpu) (cpus : List A) (quanta : List ℕ) → quanta_of (map f cpus) ≡ quanta → length cpus ≡ length quanta
cpu-count f cpus quanta e = sym (length-map (map f cpus) (λ (c : DeclaredCpu). c.quantum) ∙ length-map cpus f) ∙ ap length e

-- the CPU of a task that there is
pub task-cpu : (ts : List Task) (t : ℕ) (o : Option ℕ) → t < length ts → o ≡ option_map (λ t. t.cpu) (slice_get ts t)
    → o ≡ Some (get_or ts t no_task).cpu
task-cpu ts t o lt e = e ∙ ap (option_map (λ (x : Task). x.cpu)) (get-some ts t no_task lt)
