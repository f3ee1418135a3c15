-- What is declared for a CPU of a job: how many tasks, acts and calls.
use Rattle.std.proofs.Common.{cond, ◌≡◌, ℕ, zero, suc, ◌+◌, ◌*◌, ◌<◌, ◌≤◌, Bool, true, false, ◌==◌, List, [], ◌∷◌, length, map, get_or, sum_by, All, IfOk, Result, Ok, Err, refl, sym, ap, ap₂, ◌∙◌, subst, arith}
use Rattle.std.specs.List.{AllByRecursion as Each, filter, range_with_len}
use Rattle.std.proofs.lemmas.List.Sums.{sum_by-cons}
use Rattle.std.proofs.lemmas.Nat.{mul-le}
use Rattle.std.proofs.lemmas.List.{length-map}
use Rattle.ft_base.specs.declared.limits.TheConstants.{ACTS, USERS, FRAMES, ITEMS, QUANTUM, TASKS}
use Rattle.ft_base.specs.Versions.{limits_of}
use Rattle.ft_base.proofs.Versions.{few-largest}
use Rattle.ft_machine.specs.declared.cpus.CpuRoom.{CpuRoom}
use Rattle.ft_machine.specs.declared.cpus.TaskLimits.{TaskLimits}
use Rattle.ft_base.specs.Job.{Job, Task, no_task}
use Rattle.ft_base.specs.Tasks.{tasks_from, tasks_of}
use Rattle.user_specs.specs.declared.plan.CpuPlan.{CpuPlan}
use Rattle.user_specs.specs.declared.plan.TaskPlan.{TaskPlan}
use Rattle.user_specs.specs.declared.spec.Spec.{Spec}
use Rattle.user_specs.specs.Plain.{spec_of}
use Rattle.user_specs.specs.Bound.{call_bound_in, call_bound_of}
use Rattle.history_laws.specs.Bound.{all_calls, calls_in, calls_of}
use Rattle.word_map.specs.declared.shape.Shape.{Shape}
use Rattle.word_machine.specs.Cpu.{cpu_start}
use Rattle.word_machine.specs.Laws.{room_on, tasks_on}
use Rattle.word_machine.specs.Limits.{IsLimited}
use Rattle.cpu_core.specs.declared.parts.Parts.{Parts}
use Rattle.cpu_core.specs.Cpus.{IsFor, cpu_of}
use Rattle.cpu_core.specs.Marks.{no_marks}
use Rattle.cpu_core.specs.Taken.{IsCpuOf}
use Rattle.ft_machine.specs.Starts.{IsFirst, IsPlanOf, own_room}

-- ## a CPU's tasks among those of a job

-- the list has these tasks from a number on
abbrev pub Stands : List Task → ℕ → List Task → Type 0
Stands all n ts = (i : ℕ) → get_or all (n + i) no_task ≡ get_or ts i no_task

pub stands-tail : (all : List Task) (n : ℕ) (t : Task) (ts : List Task) → Stands all n (t ∷ ts) → Stands all (suc n) ts
stands-tail all n t ts h = λ i. let e : suc n + i ≡ n + suc i = omega arith in ap (λ k. get_or all k no_task) e ∙ h (suc i)

pub stands-head : (all : List Task) (n : ℕ) (t : Task) (ts : List Task) → Stands all n (t ∷ ts) → get_or all n no_task ≡ t
stands-head all n t ts h = let e : n ≡ n + 0 = omega arith in ap (λ k. get_or all k no_task) e ∙ h 0

module _ (all : List Task) (c : ℕ) where
  own-from : (n : ℕ) (ts : List Task) → Stands all n ts
      → tasks_from c n ts ≡ filter (λ t. (get_or all t no_task).cpu == c) (range_with_len n (length ts))
  own-from n [] h = refl
  own-from n (t ∷ ts) h =
      let e : suc n ≡ n + 1 = omega arith in
      let rest : tasks_from c (suc n) ts ≡ filter (λ v. (get_or all v no_task).cpu == c) (range_with_len (n + 1) (length ts)) =
      own-from (suc n) ts (stands-tail all n t ts h) ∙ ap (λ k. filter (λ v. (get_or all v no_task).cpu == c) (range_with_len k (length ts))) e in
      λ i. cond ((sym (stands-head all n t ts h) i).cpu == c) (n ∷ rest i) (rest i)

  -- they make no more calls than all
  calls-below : (n : ℕ) (ts : List Task) → Stands all n ts
      → sum_by (λ t. calls_in (get_or all t no_task).acts) (tasks_from c n ts) ≤ all_calls ts
  calls-below n [] h = omega arith
  calls-below n (t ∷ ts) h = by (t.cpu == c) (calls-below (suc n) ts (stands-tail all n t ts h))
    where
      by : (b : Bool) → sum_by (λ v. calls_in (get_or all v no_task).acts) (tasks_from c (suc n) ts) ≤ all_calls ts
          → sum_by (λ v. calls_in (get_or all v no_task).acts) (cond b (n ∷ tasks_from c (suc n) ts) (tasks_from c (suc n) ts)) ≤ calls_in t.acts + all_calls ts
      by true le = let e : calls_in (get_or all n no_task).acts ≡ calls_in t.acts = ap (λ (x : Task). calls_in x.acts) (stands-head all n t ts h) in
          let cons = sum_by-cons (λ v. calls_in (get_or all v no_task).acts) n (tasks_from c (suc n) ts) in
          omega (arith, le, e, cons)
      by false le = omega (arith, le)

  -- and are no more
  fewer : (n : ℕ) (ts : List Task) → length (tasks_from c n ts) ≤ length ts
  fewer n [] = omega arith
  fewer n (t ∷ ts) = by (t.cpu == c) (fewer (suc n) ts)
    where
      by : (b : Bool) → length (tasks_from c (suc n) ts) ≤ length ts
          → length (cond b (n ∷ tasks_from c (suc n) ts) (tasks_from c (suc n) ts)) ≤ suc (length ts)
      by true le = omega (arith, le)
      by false le = omega (arith, le)

-- the tasks of a CPU are those on it
pub own-on : (job : Job) (c : ℕ) → tasks_of job c ≡ tasks_on job c
own-on job c = let e : (i : ℕ) → 0 + i ≡ i = λ i. omega arith in
    own-from job.tasks c 0 job.tasks (λ i. ap (λ k. get_or job.tasks k no_task) (e i))

own-calls : (job : Job) (c : ℕ) → sum_by (λ t. calls_of job t) (tasks_of job c) ≤ all_calls job.tasks
own-calls job c = let e : (i : ℕ) → 0 + i ≡ i = λ i. omega arith in
    calls-below job.tasks c 0 job.tasks (λ i. ap (λ k. get_or job.tasks k no_task) (e i))

-- and no more items than a history may have
pub room-most : (job : Job) (c : ℕ) → IsLimited job → room_on job c ≤ ITEMS
room-most job c limited =
    let all = own-calls job c in
    let e : sum_by (λ t. calls_of job t) (tasks_of job c) ≡ sum_by (λ t. calls_of job t) (tasks_on job c) = ap (sum_by (λ t. calls_of job t)) (own-on job c) in
    let le = mul-le (call_bound_in job) _ (call_bound_in job) _ (omega arith) (subst (λ n. n ≤ all_calls job.tasks) e all) in
    omega (arith, le, limited.items)

-- ## the tasks of a plan

-- the acts are those of the job's tasks
abbrev AreActs : Job → List TaskPlan → Type 0
AreActs job ps = Each (λ (p : TaskPlan). p.acts.items ≡ (get_or job.tasks p.task.0 no_task).acts) ps

plan-calls : (job : Job) (ps : List TaskPlan) → AreActs job ps
    → sum_by (λ (p : TaskPlan). calls_in p.acts.items) ps ≡ sum_by (λ t. calls_of job t) (map (λ (p : TaskPlan). p.task.0) ps)
plan-calls job [] h = refl
plan-calls job (p ∷ ps) h =
    sum_by-cons (λ (q : TaskPlan). calls_in q.acts.items) p ps
    ∙ ap₂ (λ a b. a + b) (ap calls_in h.0) (plan-calls job ps h.1)
    ∙ sym (sum_by-cons (λ t. calls_of job t) p.task.0 (map (λ (q : TaskPlan). q.task.0) ps))

-- a task of the job has no more acts than all
task-acts : (ts : List Task) (t : ℕ) → length (get_or ts t no_task).acts ≤ sum_by (λ (x : Task). length x.acts) ts
task-acts [] t = omega arith
task-acts (x ∷ ts) zero = let cons = sum_by-cons (λ (y : Task). length y.acts) x ts in omega (arith, cons)
task-acts (x ∷ ts) (suc t) = let cons = sum_by-cons (λ (y : Task). length y.acts) x ts in let more = task-acts ts t in omega (arith, cons, more)

plan-acts : (job : Job) (n : ℕ) → sum_by (λ (x : Task). length x.acts) job.tasks ≤ n → (ps : List TaskPlan) → AreActs job ps
    → All (λ (p : TaskPlan). length p.acts.items ≤ n) ps
plan-acts job n le [] h = λ k d lt. absurd (omega (arith, lt))
plan-acts job n le (p ∷ ps) h = at (plan-acts job n le ps h.1)
  where
    at : All (λ (q : TaskPlan). length q.acts.items ≤ n) ps → All (λ (q : TaskPlan). length q.acts.items ≤ n) (p ∷ ps)
    at more zero d lt = let one = task-acts job.tasks p.task.0 in let e : length p.acts.items ≡ length (get_or job.tasks p.task.0 no_task).acts = ap length h.0 in
        omega (arith, one, e, le)
    at more (suc k) d lt = more k d (omega (arith, lt))

-- ## a plan

module _ (job : Job) (p : CpuPlan) (c : ℕ) (specs : List Spec) (limits : TaskLimits) (shape : Shape) (is : IsPlanOf job p c specs limits shape) where
  pub plan-cpu : c < shape.cpus
  plan-cpu = let e : shape.cpus ≡ length job.quanta = ap (λ (s : Shape). s.cpus) is.of'.shape' in omega (arith, e, is.inside)

  pub plan-tasks : length p.tasks.items ≤ TASKS
  plan-tasks =
      let few = fewer job.tasks c 0 job.tasks in
      let e : length p.tasks.items ≡ length (tasks_of job c) = sym (length-map p.tasks.items (λ (t : TaskPlan). t.task.0)) ∙ ap length is.of'.numbers in
      omega (arith, few, e, is.limited.counts.few_tasks)

  pub plan-all-acts : All (λ (t : TaskPlan). length t.acts.items ≤ ACTS) p.tasks.items
  plan-all-acts = plan-acts job ACTS is.limited.acts p.tasks.items is.of'.acts

  pub plan-users : length specs ≤ USERS
  plan-users =
      let e : length specs ≡ length job.users = sym (length-map specs spec_of) ∙ ap length is.of'.users in
      omega (arith, e, (few-largest job.version is.limited.counts).few_users)

  pub plan-frames : limits.frames ≤ FRAMES
  plan-frames = omega (arith, is.of'.frames', is.limited.frames)

  own : sum_by (λ (t : TaskPlan). calls_in t.acts.items) p.tasks.items ≡ sum_by (λ t. calls_of job t) (tasks_of job c)
  own = plan-calls job p.tasks.items is.of'.acts ∙ ap (sum_by (λ t. calls_of job t)) is.of'.numbers

  pub plan-room : call_bound_of (map spec_of specs) (limits_of limits.version).levels * sum_by (λ (t : TaskPlan). calls_in t.acts.items) p.tasks.items ≡ room_on job c
  plan-room = ap₂ (λ us n. us * n) (ap₂ call_bound_of is.of'.users (ap (λ v. (limits_of v).levels) is.of'.version')) (own ∙ ap (sum_by (λ t. calls_of job t)) (own-on job c))

  pub plan-items : room_on job c ≤ ITEMS
  plan-items = room-most job c is.limited

  -- a CPU that is made by the plan, with this room, is the first
  pub plan-first : (rooms : CpuRoom) (room : ℕ) (x : Parts) → room ≡ own_room rooms job c
      → (IsLimited job → IsCpuOf job p c specs limits.frames limits.version shape → p.quantum ≤ QUANTUM → IsFor job x × (cpu_of job x ≡ cpu_start job c))
      → x.marked ≡ no_marks room → IsFirst rooms job c x
  plan-first rooms room x e of' marked =
      let made = of' is.limited is.of' is.quick in
      record {
        is_for = made.0;
        same = made.1;
        marked = marked ∙ ap no_marks e;
      }

-- what is made by a plan is the first for each job of which it is the plan
pub plan-made : {E : Type 0} (p : CpuPlan) (c : ℕ) (specs : List Spec) (limits : TaskLimits) (shape : Shape) (rooms : CpuRoom) (room : ℕ) (r : Result Parts E)
    → ((job : Job) → IsPlanOf job p c specs limits shape → room ≡ own_room rooms job c)
    → IfOk r (λ x. (job : Job) → IsLimited job → IsCpuOf job p c specs limits.frames limits.version shape → p.quantum ≤ QUANTUM
    → IsFor job x × (cpu_of job x ≡ cpu_start job c))
    → IfOk r (λ x. x.marked ≡ no_marks room)
    → IfOk r (λ x. (job : Job) → IsPlanOf job p c specs limits shape → IsFirst rooms job c x)
plan-made p c specs limits shape rooms room (Ok x) e of' marked = λ job is. plan-first job p c specs limits shape is rooms room x (e job is) (of' job) marked
plan-made p c specs limits shape rooms room (Err y) e of' marked = tt
