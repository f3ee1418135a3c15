-- The room of a CPU's ring, by the tasks that its plan declares.
use Rattle.std.proofs.Common.{cond, ◌≡◌, ℕ, zero, suc, ◌+◌, ◌*◌, ◌<◌, ◌≤◌, Bool, true, false, ◌==◌, List, [], ◌∷◌, length, map, get_or, slice_get, slice_index, sum_by, All, Some, refl, sym, ap, ◌∙◌, arith}
use Rattle.std.specs.List.{AllByRecursion as Each, range_with_len}
use Rattle.std.proofs.lemmas.List.{length-map}
use Rattle.std.proofs.lemmas.List.Elements.{All-cons, All-nil}
use Rattle.std.proofs.lemmas.List.FromFn.{get_or-map-range_with_len}
use Rattle.std.proofs.lemmas.List.Sums.{sum_by-cons}
use Rattle.std.proofs.lemmas.Option.{none-some, same_Some, slice_get_read}
use Rattle.ft_base.specs.declared.limits.TheConstants.{ACTS, ITEMS, TASKS}
use Rattle.ft_base.specs.Job.{Job, Task, no_task}
use Rattle.ft_base.specs.Tasks.{tasks_from}
use Rattle.user_specs.specs.declared.plan.CpuPlan.{CpuPlan}
use Rattle.user_specs.specs.declared.plan.TaskPlan.{TaskPlan}
use Rattle.user_specs.specs.Bound.{call_bound_in}
use Rattle.user_specs.specs.Plain.{DeclaredTask, DeclaredCpu, task_of, cpu_of}
use Rattle.history_laws.specs.Bound.{calls_in, calls_of}
use Rattle.word_machine.specs.Laws.{room_on}
use Rattle.word_machine.specs.Limits.{IsLimited}
use Rattle.ft_machine.proofs.Plans.{Stands, own-on, room-most, stands-head, stands-tail}
use Rattle.ft_job.specs.Parts.{tasks_on, cpus_with, cpus_from}
use Rattle.live_threads.specs.Rooms.{rooms_of}

-- ## the tasks of a CPU among those from a number on

-- a task of this number as its plan declares it
abbrev declared : ℕ → Task → DeclaredTask
declared n t = record { task = n; pid = t.pid; acts = t.acts }

-- the calls that declared tasks make
abbrev calls_made : List DeclaredTask → ℕ
calls_made ds = sum_by (λ d. calls_in d.acts) ds

module _ (all : List Task) (c : ℕ) where
  -- they make the calls of the CPU's tasks
  calls-on : (n : ℕ) (ts : List Task) → Stands all n ts
      → calls_made (tasks_on c n ts) ≡ sum_by (λ t. calls_in (get_or all t no_task).acts) (tasks_from c n ts)
  calls-on n [] h = refl
  calls-on n (t ∷ ts) h = by (t.cpu == c) (calls-on (suc n) ts (stands-tail all n t ts h))
    where
      by : (b : Bool)
          → calls_made (tasks_on c (suc n) ts) ≡ sum_by (λ v. calls_in (get_or all v no_task).acts) (tasks_from c (suc n) ts)
          → calls_made (cond b (declared n t ∷ tasks_on c (suc n) ts) (tasks_on c (suc n) ts))
          ≡ sum_by (λ v. calls_in (get_or all v no_task).acts) (cond b (n ∷ tasks_from c (suc n) ts) (tasks_from c (suc n) ts))
      by true more =
          let e : calls_in (get_or all n no_task).acts ≡ calls_in t.acts = ap (λ (x : Task). calls_in x.acts) (stands-head all n t ts h) in
          let left = sum_by-cons (λ (d : DeclaredTask). calls_in d.acts) (declared n t) (tasks_on c (suc n) ts) in
          let right = sum_by-cons (λ v. calls_in (get_or all v no_task).acts) n (tasks_from c (suc n) ts) in
          omega (arith, more, e, left, right)
      by false more = more

-- they are no more than all
few-on : (c n : ℕ) (ts : List Task) → length (tasks_on c n ts) ≤ length ts
few-on c n [] = omega arith
few-on c n (t ∷ ts) = by (t.cpu == c) (few-on c (suc n) ts)
  where
    by : (b : Bool) → length (tasks_on c (suc n) ts) ≤ length ts
        → length (cond b (declared n t ∷ tasks_on c (suc n) ts) (tasks_on c (suc n) ts)) ≤ suc (length ts)
    by true le = omega (arith, le)
    by false le = omega (arith, le)

-- and none has more acts than all tasks together
acts-on : (m c n : ℕ) (ts : List Task) → sum_by (λ (t : Task). length t.acts) ts ≤ m → Each (λ d. length d.acts ≤ m) (tasks_on c n ts)
acts-on m c n [] le = tt
acts-on m c n (t ∷ ts) le =
    let cons = sum_by-cons (λ (x : Task). length x.acts) t ts in
    let own : length t.acts ≤ m = omega (arith, cons, le) in
    let rest : Each (λ d. length d.acts ≤ m) (tasks_on c (suc n) ts) = acts-on m c (suc n) ts (omega (arith, cons, le)) in
    elim (t.cpu == c) as (λ b. Each (λ d. length d.acts ≤ m) (cond b (declared n t ∷ tasks_on c (suc n) ts) (tasks_on c (suc n) ts))) [
      | true ↦ (own, rest)
      | false ↦ rest
    ]

-- ## a plan

-- the plans of CPUs declare the tasks of each
planned-at : (c n i : ℕ) (qs : List ℕ) (ts : List Task) (plans : List CpuPlan) (p : CpuPlan) → map cpu_of plans ≡ cpus_with c qs n ts
    → slice_get plans i ≡ Some p → map task_of p.tasks.items ≡ tasks_on (c + i) n ts
planned-at c n i qs ts [] p made at = absurd (none-some p at)
planned-at c n i [] ts (x ∷ plans) p made at = absurd cc
planned-at c n zero (q ∷ qs) ts (x ∷ plans) p made at =
    let z : c + 0 ≡ c = omega arith in
    let is : x ≡ p = same_Some x p at in
    let own : cpu_of x ≡ record { quantum = q; tasks = tasks_on c n ts } = cc in
    rw z (ap (λ (y : CpuPlan). map task_of y.tasks.items) (sym is) ∙ ap (λ (y : DeclaredCpu). y.tasks) own)
planned-at c n (suc i) (q ∷ qs) ts (x ∷ plans) p made at =
    let s : c + suc i ≡ suc c + i = omega arith in
    let rest : map cpu_of plans ≡ cpus_with (suc c) qs n ts = cc in
    rw s (planned-at (suc c) n i qs ts plans p rest at)

-- the calls of a plan are those of the tasks that it declares
plan-calls : (ps : List TaskPlan) → sum_by (λ (p : TaskPlan). calls_in p.acts.items) ps ≡ calls_made (map task_of ps)
plan-calls [] = refl
plan-calls (p ∷ ps) =
    let left = sum_by-cons (λ (x : TaskPlan). calls_in x.acts.items) p ps in
    let right = sum_by-cons (λ (d : DeclaredTask). calls_in d.acts) (task_of p) (map task_of ps) in
    let more = plan-calls ps in
    omega (arith, left, right, more)

-- and so are the acts
plan-acts : (m : ℕ) (ps : List TaskPlan) → Each (λ d. length d.acts ≤ m) (map task_of ps) → All (λ (p : TaskPlan). length p.acts.items ≤ m) ps
plan-acts m [] h = All-nil (λ (p : TaskPlan). length p.acts.items ≤ m)
plan-acts m (p ∷ ps) h = All-cons (λ (x : TaskPlan). length x.acts.items ≤ m) p ps h.0 (plan-acts m ps h.1)

module _ (job : Job) (limited : IsLimited job) (plans : List CpuPlan) (made : map cpu_of plans ≡ cpus_from 0 job.quanta job.tasks)
    (c : ℕ) (p : CpuPlan) (lt : c < length plans) (is : p ≡ get_or plans c p) where
  tasks-are : map task_of p.tasks.items ≡ tasks_on c 0 job.tasks
  tasks-are =
      let at : slice_get plans c ≡ Some p = slice_get_read plans (length plans) c p refl lt is in
      let z : 0 + c ≡ c = omega arith in
      rw z at (planned-at 0 0 c job.quanta job.tasks plans p made at)

  pub few-tasks : length p.tasks.items ≤ TASKS
  few-tasks =
      let few = few-on c 0 job.tasks in
      let e : length p.tasks.items ≡ length (tasks_on c 0 job.tasks) = sym (length-map p.tasks.items task_of) ∙ ap length tasks-are in
      omega (arith, few, e, limited.counts.few_tasks)

  pub few-acts : All (λ (t : TaskPlan). length t.acts.items ≤ ACTS) p.tasks.items
  few-acts = plan-acts ACTS p.tasks.items (rw tasks-are (acts-on ACTS c 0 job.tasks limited.acts))

  -- for the calls that it declares a CPU has its room
  pub room-is : call_bound_in job * sum_by (λ (t : TaskPlan). calls_in t.acts.items) p.tasks.items ≡ room_on job c
  room-is =
      let z : (i : ℕ) → 0 + i ≡ i = λ i. omega arith in
      let calls : calls_made (tasks_on c 0 job.tasks) ≡ sum_by (λ t. calls_of job t) (tasks_from c 0 job.tasks) =
      calls-on job.tasks c 0 job.tasks (λ i. ap (λ k. get_or job.tasks k no_task) (z i)) in
      let own = plan-calls p.tasks.items ∙ ap calls_made tasks-are in
      ap (λ n. call_bound_in job * n) (own ∙ calls ∙ ap (sum_by (λ t. calls_of job t)) (own-on job c))

-- ## the rooms

pub room-at : (job : Job) (c : ℕ) → c < length job.quanta → slice_index (rooms_of job) c ≡ room_on job c
room-at job c lt = get_or-map-range_with_len (room_on job) 0 (length job.quanta) c c 0 lt (omega arith)

few-from : (job : Job) → IsLimited job → (a n c : ℕ) → slice_index (map (room_on job) (range_with_len a n)) c ≤ ITEMS
few-from job limited a zero c = omega arith
few-from job limited a (suc n) zero = room-most job a limited
few-from job limited a (suc n) (suc c) = few-from job limited (a + 1) n c

pub rooms-few : (job : Job) → IsLimited job → (c : ℕ) → slice_index (rooms_of job) c ≤ ITEMS
rooms-few job limited c = few-from job limited 0 (length job.quanta) c
