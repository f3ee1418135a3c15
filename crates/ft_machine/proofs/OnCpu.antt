-- A CPU's plan is that of the job's CPU.
use Rattle.std.proofs.Common.{cond, ◌≡◌, ℕ, zero, suc, ◌+◌, ◌≤◌, true, false, ◌==◌, List, [], ◌∷◌, get_or, map, Option, Some, refl, sym, ap, ◌∙◌, arith}
use Rattle.std.specs.Prelude.{slice_get, option_map}
use Rattle.std.specs.List.{AllByRecursion as Each}
use Rattle.std.proofs.lemmas.Option.{slice_get-map, get_or_from_slice_get}
use Rattle.std.proofs.lemmas.Simd.{map-map}
use Rattle.ft_base.specs.declared.limits.TheConstants.{QUANTUM}
use Rattle.ft_base.specs.Job.{Job, Task, no_task}
use Rattle.ft_base.specs.Tasks.{tasks_of as numbers_on, tasks_from}
use Rattle.ft_base.proofs.Modifiers.{named-at}
use Rattle.ft_base.proofs.Small.{Each-weaker}
use Rattle.user_specs.specs.Plain.{DeclaredTask, DeclaredCpu, task_of, cpu_of}
use Rattle.user_specs.specs.declared.plan.TaskPlan.{TaskPlan}
use Rattle.user_specs.specs.declared.plan.CpuPlan.{CpuPlan}
use Rattle.ft_job.specs.Parts.{quanta_of, tasks_on, cpus_with, cpus_from}

-- ## the tasks of a CPU among those from a number on

-- their numbers
numbers : (c n : ℕ) (ts : List Task) → map (λ t. t.task) (tasks_on c n ts) ≡ tasks_from c n ts
numbers c n [] = refl
numbers c n (t ∷ ts) =
    elim (t.cpu == c) as (λ b. map (λ u. u.task) (cond b (record { task = n; pid = t.pid; acts = t.acts } ∷ tasks_on c (suc n) ts) (tasks_on c (suc n) ts))
    ≡ cond b (n ∷ tasks_from c (suc n) ts) (tasks_from c (suc n) ts)) [
      | true ↦ ap (λ (l : List ℕ). n ∷ l) (numbers c (suc n) ts)
      | false ↦ numbers c (suc n) ts
    ]

-- a task of these has the acts of its number
record IsOwn (n : ℕ) (ts : List Task) (x : DeclaredTask) : Type 0 where
  place : ℕ
  number : x.task ≡ n + place
  own : x.acts ≡ (get_or ts place no_task).acts

later-own : (n : ℕ) (t : Task) (ts : List Task) (x : DeclaredTask) → IsOwn (suc n) ts x → IsOwn n (t ∷ ts) x
later-own n t ts x o = let e = o.number in record { place = suc o.place; number = omega arith; own = o.own }

on-own : (c n : ℕ) (ts : List Task) → Each (IsOwn n ts) (tasks_on c n ts)
on-own c n [] = tt
on-own c n (t ∷ ts) =
    let rest : Each (IsOwn n (t ∷ ts)) (tasks_on c (suc n) ts) = Each-weaker (IsOwn (suc n) ts) (IsOwn n (t ∷ ts)) (tasks_on c (suc n) ts) (λ x o. later-own n t ts x o) (on-own c (suc n) ts) in
    elim (t.cpu == c) as (λ b. Each (IsOwn n (t ∷ ts)) (cond b (record { task = n; pid = t.pid; acts = t.acts } ∷ tasks_on c (suc n) ts) (tasks_on c (suc n) ts))) [
      | true ↦ (record { place = 0; number = omega arith; own = refl }, rest)
      | false ↦ rest
    ]

acts-on : (c : ℕ) (ts : List Task) → Each (λ x. x.acts ≡ (get_or ts x.task no_task).acts) (tasks_on c 0 ts)
acts-on c ts =
    Each-weaker (IsOwn 0 ts) (λ x. x.acts ≡ (get_or ts x.task no_task).acts) (tasks_on c 0 ts)
    (λ x o. (let at : x.task ≡ o.place = (let n = o.number in omega arith) in rw at o.own))
    (on-own c 0 ts)

-- what holds of all tasks holds of all their plans
Each-planned : (P : DeclaredTask → Type 0) (xs : List TaskPlan) → Each P (map task_of xs) → Each (λ x. P (task_of x)) xs
Each-planned P [] h = tt
Each-planned P (x ∷ xs) h = (h.0, Each-planned P xs h.1)

-- a CPU among those that were made of tasks
with-at : (c n i : ℕ) (qs : List ℕ) (ts : List Task) (x : DeclaredCpu) → slice_get (cpus_with c qs n ts) i ≡ Some x → x.tasks ≡ tasks_on (c + i) n ts
with-at c n i [] ts x e = absurd cc
with-at c n zero (q ∷ qs) ts x e =
    let z : c + 0 ≡ c = omega arith in
    let s : record { quantum = q; tasks = tasks_on c n ts } ≡ x = cc in rw z (ap (λ (y : DeclaredCpu). y.tasks) (sym s))
with-at c n (suc i) (q ∷ qs) ts x e = let s : c + suc i ≡ suc c + i = omega arith in rw s (with-at (suc c) n i qs ts x e)

-- ## a CPU's plan, of which it is CPU c

module _ (cpus : List CpuPlan) (j : Job) (quanta : quanta_of (map cpu_of cpus) ≡ j.quanta) (all : map cpu_of cpus ≡ cpus_from 0 j.quanta j.tasks)
    (c : ℕ) (x : CpuPlan) (at : slice_get cpus c ≡ Some x) where
  declared-at : slice_get (map cpu_of cpus) c ≡ Some (cpu_of x)
  declared-at = slice_get-map cpu_of cpus c ∙ ap (λ (o : Option CpuPlan). option_map cpu_of o) at

  own-tasks : map task_of x.tasks.items ≡ tasks_on c 0 j.tasks
  own-tasks =
      let made : slice_get (cpus_with 0 j.quanta 0 j.tasks) c ≡ Some (cpu_of x) = rw all at declared-at in
      let z : 0 + c ≡ c = omega arith in rw z at (with-at 0 0 c j.quanta j.tasks (cpu_of x) made)

  quantum-at : slice_get (quanta_of (map cpu_of cpus)) c ≡ Some x.quantum
  quantum-at = slice_get-map (λ (y : DeclaredCpu). y.quantum) (map cpu_of cpus) c ∙ ap (λ (o : Option DeclaredCpu). option_map (λ y. y.quantum) o) declared-at

  pub own-quantum : x.quantum ≡ get_or j.quanta c 1
  own-quantum = rw (← quanta) (sym (get_or_from_slice_get (quanta_of (map cpu_of cpus)) c x.quantum 1 quantum-at))

  pub own-numbers : map (λ (t : TaskPlan). t.task.0) x.tasks.items ≡ numbers_on j c
  own-numbers = sym (map-map (λ (t : DeclaredTask). t.task) task_of x.tasks.items) ∙ ap (λ (ts : List DeclaredTask). map (λ t. t.task) ts) own-tasks ∙ numbers c 0 j.tasks

  pub own-acts : Each (λ (t : TaskPlan). t.acts.items ≡ (get_or j.tasks t.task.0 no_task).acts) x.tasks.items
  own-acts = Each-planned (λ t. t.acts ≡ (get_or j.tasks t.task no_task).acts) x.tasks.items (rw own-tasks (acts-on c j.tasks))

  -- its quantum is within its limit
  pub quick : Each (λ q. q ≤ QUANTUM) j.quanta → x.quantum ≤ QUANTUM
  quick within = named-at (λ q. q ≤ QUANTUM) (quanta_of (map cpu_of cpus)) c x.quantum quantum-at (rw quanta within)
