-- A CPU before its first step is the machine's.
use Rattle.std.proofs.Common.{cond, ◌≡◌, ℕ, zero, suc, ◌+◌, ◌-◌, ◌<◌, ◌≤◌, Bool, true, false, not, ◌==◌, ◌||◌, List, [], ◌∷◌, find, get_or, length, map, slice_get, Some, IsSomeAnd, refl, sym, ap, ◌∙◌, subst, arith}
use Rattle.std.specs.List.{list_any, AllByRecursion as Each}
use Rattle.std.proofs.lemmas.Bool.{eqb-true, false≢true}
use Rattle.ft_base.specs.declared.context.Ctx.{Ctx}
use Rattle.ft_base.specs.declared.context.Ctx.TheVariants.{Normal, Softirq, Irq, Nmi}
use Rattle.ft_base.specs.declared.limits.TheConstants.{ITEMS, QUANTUM}
use Rattle.ft_base.specs.declared.number.CpuNo.{CpuNo}
use Rattle.ft_base.specs.Job.{Job, Task as DeclaredTask, no_task}
use Rattle.ft_base.specs.Versions.{has_looks, levels, limits_of}
use Rattle.ft_base.specs.WellFormed.{IsScript}
use Rattle.ft_base.specs.Acts.{AreRaised}
use Rattle.ft_base.specs.Tasks.{tasks_from, tasks_of}
use Rattle.recursion_guard.specs.Guards.{held_in, unheld}
use Rattle.user_specs.specs.declared.plan.CpuPlan.{CpuPlan}
use Rattle.user_specs.specs.declared.plan.TaskPlan.{TaskPlan}
use Rattle.user_specs.specs.declared.spec.Spec.{Spec as CodeSpec}
use Rattle.user_specs.specs.Plain.{spec_of}
use Rattle.word_map.specs.declared.shape.Shape.{Shape}
use Rattle.word_machine.specs.Cpu.{cpu_start, first_of, has_more}
use Rattle.word_machine.specs.Cpu as machine
use Rattle.word_machine.specs.Limits.{IsLimited}
use Rattle.word_machine.specs.Task.{TaskState, task_start}
use Rattle.word_machine.specs.Task as task
use Rattle.cpu_core.specs.declared.parts.Parts.{Parts}
use Rattle.cpu_core.specs.declared.parts.Phase.TheVariants.{Going}
use Rattle.task_core.specs.declared.moment.Moment.TheVariants.{Polling}
use Rattle.task_core.specs.declared.task.Task.{Task}
use Rattle.cpu_core.specs.Cpus.{IsFor, cpu_of, number_or, numbered, numbers, state_or, tasks_by}
use Rattle.cpu_core.specs.Marks.{no_marks}
use Rattle.cpu_core.specs.CpuNeeds.{HasNext, NextAt}
use Rattle.cpu_core.specs.CpuOps.{runs}
use Rattle.task_core.specs.Setups.{setup_in}
use Rattle.task_core.specs.Starts.{HasRoomFor, is_left, task_at_start}
use Rattle.task_core.specs.States.{is_polling, state_of}
use Rattle.task_core.specs.TaskInvariant.{TaskInvariant}
use Rattle.cpu_core.specs.Taken.{IsCpuOf}
use Rattle.task_core.specs.StackInvariant.{IsTaskOf}
use Rattle.cpu_core.specs.Turns.{AreStarted, first_left}
use Rattle.cpu_core.proofs.Lookups.{first-is}
use Rattle.task_core.proofs.InvariantActs.{invariant-start}
use Rattle.cpu_core.proofs.Turns.{first-turn}

-- a task of a CPU's is one of the job's
from-inside : (c n : ℕ) (ts : List DeclaredTask) → Each (λ k. k < n + length ts) (tasks_from c n ts)
from-inside c n [] = tt
from-inside c n (t ∷ ts) = by (t.cpu == c) (wider (tasks_from c (suc n) ts) (from-inside c (suc n) ts))
  where
    wider : (ks : List ℕ) → Each (λ k. k < suc n + length ts) ks → Each (λ k. k < n + suc (length ts)) ks
    wider [] h = tt
    wider (k ∷ ks) h = ((let lt = h.0 in omega (arith, lt)), wider ks h.1)

    by : (b : Bool) → Each (λ k. k < n + suc (length ts)) (tasks_from c (suc n) ts)
        → Each (λ k. k < n + suc (length ts)) (cond b (n ∷ tasks_from c (suc n) ts) (tasks_from c (suc n) ts))
    by true more = (omega arith, more)
    by false more = more

own-inside : (job : Job) (c : ℕ) → Each (λ k. k < length job.tasks) (tasks_of job c)
own-inside job c = let e : 0 + length job.tasks ≡ length job.tasks = omega arith in
    subst (λ n. Each (λ k. k < n) (tasks_of job c)) e (from-inside c 0 job.tasks)

-- what is so of all is so of one
each-or : {A : Type 0} (P : A → Type 0) (xs : List A) (i : ℕ) (d : A) → Each P xs → i < length xs → P (get_or xs i d)
each-or P [] i d h lt = absurd (omega (arith, lt))
each-or P (x ∷ xs) zero d h lt = h.0
each-or P (x ∷ xs) (suc i) d h lt = each-or P xs i d h.1 (omega (arith, lt))

-- the first that passes does
found : {A : Type 0} (p : A → Bool) (xs : List A) → list_any p xs ≡ true → IsSomeAnd (find p xs) (λ x. p x ≡ true)
found p [] any = absurd (false≢true any)
found p (x ∷ xs) any = by (p x) refl (found p xs) any
  where
    by : (b : Bool) → p x ≡ b → (list_any p xs ≡ true → IsSomeAnd (find p xs) (λ y. p y ≡ true))
        → (b || list_any p xs) ≡ true → IsSomeAnd (cond b (Some x) (find p xs)) (λ y. p y ≡ true)
    by true e more any' = e
    by false e more any' = more any'

-- no guard is held
none-held : (k : Ctx) → held_in unheld k ≡ 0
none-held Normal = refl
none-held Softirq = refl
none-held Irq = refl
none-held Nmi = refl

-- a task before its first act
pub record HasBegun (job : Job) (t : Task) : Type 0 where
  pub of' : IsTaskOf job t
  pub state : state_of t ≡ task_start job t.number.0
  pub moment : t.moment ≡ Polling
  pub next : t.next ≡ 1

module _ (job : Job) (limited : IsLimited job) where
  module _ (p : TaskPlan) (inside : p.task.0 < length job.tasks) (acts : p.acts.items ≡ (get_or job.tasks p.task.0 no_task).acts)
      (limit : ℕ) (room : HasRoomFor limit (levels job) p.acts.items) where
    abbrev first : Task
    first = task_at_start p.task p.acts.items limit job.frames (levels job)

    same : state_of first ≡ task_start job p.task.0
    same = λ i. record { next = 1; acts = acts i; gone = 0; contexts = []; stack = []; word = 0; moment = task.Polling }

    steady : TaskInvariant job (state_of first)
    steady = subst (TaskInvariant job) (sym same)
        (invariant-start job p.task.0 (each-or (λ t. IsScript job 0 t.acts) job.tasks p.task.0 no_task limited.job'.tasks inside)
        (each-or (λ t. AreRaised [] t.acts) job.tasks p.task.0 no_task limited.raised inside))

    first-begun : HasBegun job first
    first-begun = record {
      of' = record {
        number = inside;
        acts = acts;
        gone = omega arith;
        frames = refl;
        limits = refl;
        nested = room.nested;
        room = room.within;
        tied = tt;
        moment = tt;
        levels' = refl;
        held = none-held;
        raised = refl;
        few = tt;
        steady = steady;
      };
      state = same;
      moment = refl;
      next = refl;
    }

  pub begun : (ps : List TaskPlan) (ts : List Task) → AreStarted job.frames (levels job) ps ts
      → Each (λ (p : TaskPlan). p.acts.items ≡ (get_or job.tasks p.task.0 no_task).acts) ps
      → Each (λ n. n < length job.tasks) (map (λ (p : TaskPlan). p.task.0) ps)
      → Each (HasBegun job) ts × (numbers ts ≡ map (λ (p : TaskPlan). p.task.0) ps)
  begun [] [] started acts inside = (tt, refl)
  begun [] (t ∷ ts) started acts inside = absurd started
  begun (p ∷ ps) [] started acts inside = absurd started
  begun (p ∷ ps) (t ∷ ts) started acts inside =
      let more = begun ps ts started.1 acts.1 inside.1 in
      let is = started.0 in (
        (subst (HasBegun job) (sym is.start) (first-begun p inside.0 acts.0 t.opens.limit is.room), more.0),
        λ i. (is.start i).number.0 ∷ more.1 i,
      )

  -- each task of the job is as before its first act
  start-by : (ts : List Task) (n : ℕ) → Each (HasBegun job) ts → tasks_by job ts n ≡ task_start job n
  start-by [] n h = refl
  start-by (t ∷ ts) n h = by (t.number.0 == n) refl (start-by ts n h.1)
    where
      by : (b : Bool) → (t.number.0 == n) ≡ b → tasks_by job ts n ≡ task_start job n
          → state_or (task_start job n) (cond b (Some t) (numbered ts n)) ≡ task_start job n
      by true e more = h.0.state ∙ ap (task_start job) (eqb-true t.number.0 n e)
      by false e more = more

  each-of : (ts : List Task) → Each (HasBegun job) ts → Each (IsTaskOf job) ts
  each-of [] h = tt
  each-of (t ∷ ts) h = (h.0.of', each-of ts h.1)

  each-next : (n : ℕ) (ts : List Task) → Each (HasBegun job) ts → Each (λ t. t.next ≤ suc n) ts
  each-next n [] h = tt
  each-next n (t ∷ ts) h = ((let e = h.0.next in omega (arith, e)), each-next n ts h.1)

  -- ## the CPU

  module _ (cpu : CpuNo) (ts : List Task) (room : ℕ) (inside : cpu.0 < length job.quanta) (quick : get_or job.quanta cpu.0 1 ≤ QUANTUM)
      (h : Each (HasBegun job) ts) (is : numbers ts ≡ tasks_of job cpu.0) where
    abbrev pub first-cpu : Parts
    first-cpu = record {
      setup = setup_in job;
      cpu = cpu;
      ack = 0;
      quantum = get_or job.quanta cpu.0 1;
      tasks = ts;
      present = first_left ts;
      count = 0;
      phase = Going;
      marked = no_marks room;
    }

    pub first-for : IsFor job first-cpu
    first-for = record {
      own = record {
        setup = refl;
        cpu = inside;
        quantum = refl;
        quick = quick;
        numbers' = is;
        tasks = each-of ts h;
        calls = each-next (0 + (ITEMS - ITEMS)) ts h;
        left = omega arith;
        items = omega arith;
      };
      present = λ any. subst (λ o. IsSomeAnd o (λ t. is_left t ≡ true)) (sym (first-turn ts)) (found is_left ts any);
      phase' = omega arith;
    }

    all-start : tasks_by job ts ≡ task_start job
    all-start = λ i n. start-by ts n h i

    present-start : number_or (length job.tasks) (slice_get ts (first_left ts)) ≡ first_of (λ t. has_more (task_start job) t) (length job.tasks) (tasks_of job cpu.0)
    present-start =
        sym (first-is job cpu.0 ts is)
        ∙ ap (λ (tasks : ℕ → TaskState). first_of (λ t. has_more tasks t) (length job.tasks) (tasks_of job cpu.0)) all-start

    pub first-start : cpu_of job first-cpu ≡ cpu_start job cpu.0
    first-start = λ i. record { number = cpu.0; present = present-start i; count = 0; ack = 0; tasks = all-start i; phase = machine.Going }

    -- a CPU that has the same parts
    pub start-same : (c : Parts) → first-cpu ≡ c → IsFor job c × (cpu_of job c ≡ cpu_start job cpu.0)
    start-same c e = subst (λ x. IsFor job x × (cpu_of job x ≡ cpu_start job cpu.0)) e (first-for, first-start)

-- ## what `Cpu::new` has made

-- no task runs
none-runs : (frames levels : ℕ) (ps : List TaskPlan) (ts : List Task) (i : ℕ) → AreStarted frames levels ps ts → runs (slice_get ts i) ≡ false
none-runs frames levels [] [] i started = refl
none-runs frames levels [] (t ∷ ts) i started = absurd started
none-runs frames levels (p ∷ ps) [] i started = absurd started
none-runs frames levels (p ∷ ps) (t ∷ ts) zero started = ap (λ (x : Task). not (is_polling x.moment)) started.0.start
none-runs frames levels (p ∷ ps) (t ∷ ts) (suc i) started = none-runs frames levels ps ts i started.1

module _ (plan : CpuPlan) (cpu : CpuNo) (specs : List CodeSpec) (frames version guard_levels : ℕ) (shape : Shape) (room : ℕ) (c : Parts)
    (setup : c.setup ≡ record { shape = shape; users = map spec_of specs; frames = frames; looks = has_looks version }) (of' : guard_levels ≡ (limits_of version).levels) (number : c.cpu ≡ cpu) (ack : c.ack ≡ 0)
    (quantum : c.quantum ≡ plan.quantum) (started : AreStarted frames guard_levels plan.tasks.items c.tasks) (present : c.present ≡ first_left c.tasks)
    (count : c.count ≡ 0) (phase : c.phase ≡ Going) (marked : c.marked ≡ no_marks room) where
  pub start-next : HasNext c
  start-next = subst (λ p. NextAt c p) (sym phase)
      (λ running. absurd (false≢true (sym (none-runs frames guard_levels plan.tasks.items c.tasks c.present started) ∙ running)))

  module _ (job : Job) (limited : IsLimited job) (is : IsCpuOf job plan cpu.0 specs frames version shape) where
    begun-all : Each (HasBegun job) c.tasks × (numbers c.tasks ≡ map (λ (p : TaskPlan). p.task.0) plan.tasks.items)
    begun-all = begun job limited plan.tasks.items c.tasks (subst (λ (n : ℕ × ℕ). AreStarted n.0 n.1 plan.tasks.items c.tasks) (λ i. (is.frames' i, (of' ∙ ap (λ v. (limits_of v).levels) is.version') i)) started) is.acts
        (subst (λ ns. Each (λ n. n < length job.tasks) ns) (sym is.numbers) (own-inside job cpu.0))

    same-setup : setup_in job ≡ c.setup
    same-setup = sym (setup ∙ λ i. record { shape = is.shape' i; users = is.users i; frames = is.frames' i; looks = has_looks (is.version' i) })

    pub start-is : cpu.0 < shape.cpus → plan.quantum ≤ QUANTUM → IsFor job c × (cpu_of job c ≡ cpu_start job cpu.0)
    start-is inside quick =
        start-same job limited cpu c.tasks room (subst (λ (s : Shape). cpu.0 < s.cpus) is.shape' inside) (subst (λ n. n ≤ QUANTUM) is.quantum quick)
        begun-all.0 (begun-all.1 ∙ is.numbers) c (λ i. record {
          setup = same-setup i;
          cpu = sym number i;
          ack = sym ack i;
          quantum = sym (quantum ∙ is.quantum) i;
          tasks = c.tasks;
          present = sym present i;
          count = sym count i;
          phase = sym phase i;
          marked = sym marked i;
        })
