-- Tasks by number, and by CPU: the one gives the other.
use Rattle.std.proofs.Common.{cond, ◌≡◌, ℕ, zero, suc, ◌+◌, ◌<◌, ◌≤◌, Bool, true, false, ◌==◌, List, [], ◌∷◌, length, Option, Some, None, refl, sym, ap, ◌∙◌, subst, arith, eqb-true, eq-eqb}
use Rattle.std.specs.Prelude.{slice_get}
use Rattle.std.specs.List.{AllByRecursion as Each}
use Rattle.std.proofs.lemmas.List.{length-map}
use Rattle.std.proofs.lemmas.List.Sums.{sum_by-cons}
use Rattle.ft_base.specs.Job.{Task}
use Rattle.ft_base.proofs.Small.{false_true, ==-refl, Each-weaker}
use Rattle.user_specs.specs.Plain.{DeclaredTask, DeclaredCpu}
use Rattle.ft_job.specs.Parts.{quanta_of, tasks_on, cpus_with, cpus_from, found_on, or_else, found_in, or_none, tasks_up, task_count, tasks_of}

-- two numbers that differ
differ : (a b : ℕ) → (a ≡ b → ⊥) → (a == b) ≡ false
differ a b no_way = by (a == b) refl
  where
    by : (t : Bool) → (a == b) ≡ t → t ≡ false
    by true e = absurd (no_way (eqb-true a b e))
    by false e = refl

above : (a c : ℕ) → c ≤ a → (a ≡ c → ⊥) → suc c ≤ a
above a c le other = omega arith

-- no task has a number below the first
not-on : (d c n k : ℕ) (ts : List Task) → k < n → found_on k d (tasks_on c n ts) ≡ None
not-on d c n k [] lt = refl
not-on d c n k (t ∷ ts) lt =
    let off : (n == k) ≡ false = differ n k (λ e. omega arith) in
    elim (t.cpu == c) as (λ b. found_on k d (cond b (record { task = n; pid = t.pid; acts = t.acts } ∷ tasks_on c (suc n) ts) (tasks_on c (suc n) ts)) ≡ None) [
      | true ↦ rw off (not-on d c (suc n) k ts (omega arith))
      | false ↦ not-on d c (suc n) k ts (omega arith)
    ]

-- ## one task more

module _ (t : Task) (ts : List Task) (n : ℕ) where
  count-out : (c : ℕ) (qs : List ℕ) → t.cpu < c → task_count (cpus_with c qs n (t ∷ ts)) ≡ task_count (cpus_with c qs (suc n) ts)
  count-out c [] lt = refl
  count-out c (q ∷ qs) lt =
      let off : (t.cpu == c) ≡ false = differ t.cpu c (λ e. omega arith) in
      sum_by-cons (λ (x : DeclaredCpu). length x.tasks) (record { quantum = q; tasks = tasks_on c n (t ∷ ts) }) (cpus_with (suc c) qs n (t ∷ ts))
      ∙ rw (off, count-out (suc c) qs (omega arith)) (sym (sum_by-cons (λ (x : DeclaredCpu). length x.tasks) (record { quantum = q; tasks = tasks_on c (suc n) ts }) (cpus_with (suc c) qs (suc n) ts)))

  count-in : (c : ℕ) (qs : List ℕ) → c ≤ t.cpu → t.cpu < c + length qs → task_count (cpus_with c qs n (t ∷ ts)) ≡ suc (task_count (cpus_with c qs (suc n) ts))
  count-in c [] le lt = absurd (omega arith)
  count-in c (q ∷ qs) le lt =
      sum_by-cons (λ (x : DeclaredCpu). length x.tasks) (record { quantum = q; tasks = tasks_on c n (t ∷ ts) }) (cpus_with (suc c) qs n (t ∷ ts))
      ∙ by (t.cpu == c) refl (λ (h : suc c ≤ t.cpu). count-in (suc c) qs h (omega arith))
      ∙ ap suc (sym (sum_by-cons (λ (x : DeclaredCpu). length x.tasks) (record { quantum = q; tasks = tasks_on c (suc n) ts }) (cpus_with (suc c) qs (suc n) ts)))
    where
      by : (b : Bool) → (t.cpu == c) ≡ b → (suc c ≤ t.cpu → task_count (cpus_with (suc c) qs n (t ∷ ts)) ≡ suc (task_count (cpus_with (suc c) qs (suc n) ts)))
          → length (tasks_on c n (t ∷ ts)) + task_count (cpus_with (suc c) qs n (t ∷ ts)) ≡ suc (length (tasks_on c (suc n) ts) + task_count (cpus_with (suc c) qs (suc n) ts))
      by true e further = let same : t.cpu ≡ c = eqb-true t.cpu c e in rw (e, count-out (suc c) qs (omega arith)) (omega arith)
      by false e further = rw (e, further (above t.cpu c le (λ s. false_true (sym e ∙ eq-eqb t.cpu c s)))) (omega arith)

  -- found under its own number
  found-head : (c : ℕ) (qs : List ℕ) → c ≤ t.cpu → t.cpu < c + length qs → found_in n c (cpus_with c qs n (t ∷ ts)) ≡ Some t
  found-head c [] le lt = absurd (omega arith)
  found-head c (q ∷ qs) le lt = by (t.cpu == c) refl (λ (h : suc c ≤ t.cpu). found-head (suc c) qs h (omega arith))
    where
      by : (b : Bool) → (t.cpu == c) ≡ b → (suc c ≤ t.cpu → found_in n (suc c) (cpus_with (suc c) qs n (t ∷ ts)) ≡ Some t)
          → or_else (found_on n c (tasks_on c n (t ∷ ts))) (found_in n (suc c) (cpus_with (suc c) qs n (t ∷ ts))) ≡ Some t
      by true e further = let same : t.cpu ≡ c = eqb-true t.cpu c e in rw (e, ==-refl n) (rw same refl)
      by false e further = rw (e, not-on c c (suc n) n ts (omega arith)) (further (above t.cpu c le (λ s. false_true (sym e ∙ eq-eqb t.cpu c s))))

  -- another number is found among the others
  found-tail-on : (k c d : ℕ) → n < k → found_on k d (tasks_on c n (t ∷ ts)) ≡ found_on k d (tasks_on c (suc n) ts)
  found-tail-on k c d lt =
      let off : (n == k) ≡ false = differ n k (λ e. omega arith) in
      elim (t.cpu == c) as (λ b. found_on k d (cond b (record { task = n; pid = t.pid; acts = t.acts } ∷ tasks_on c (suc n) ts) (tasks_on c (suc n) ts)) ≡ found_on k d (tasks_on c (suc n) ts)) [
        | true ↦ rw off refl
        | false ↦ refl
      ]

  found-tail : (k c : ℕ) (qs : List ℕ) → n < k → found_in k c (cpus_with c qs n (t ∷ ts)) ≡ found_in k c (cpus_with c qs (suc n) ts)
  found-tail k c [] lt = refl
  found-tail k c (q ∷ qs) lt = rw (found-tail-on k c c lt, found-tail k (suc c) qs lt) refl

-- ## all tasks

found-none : (k c n : ℕ) (qs : List ℕ) → found_in k c (cpus_with c qs n []) ≡ None
found-none k c n [] = refl
found-none k c n (q ∷ qs) = found-none k (suc c) n qs

count-none : (c n : ℕ) (qs : List ℕ) → task_count (cpus_with c qs n []) ≡ 0
count-none c n [] = refl
count-none c n (q ∷ qs) = sum_by-cons (λ (x : DeclaredCpu). length x.tasks) (record { quantum = q; tasks = [] }) (cpus_with (suc c) qs n []) ∙ (let e = count-none (suc c) n qs in omega (arith, e))

-- a CPU number from c on
abbrev IsOn : ℕ → List ℕ → Task → Type 0
IsOn c qs t = (c ≤ t.cpu) × (t.cpu < c + length qs)

found-from : (c n : ℕ) (qs : List ℕ) (ts : List Task) → Each (IsOn c qs) ts → (i : ℕ) → found_in (n + i) c (cpus_with c qs n ts) ≡ slice_get ts i
found-from c n qs [] on i = found-none (n + i) c n qs
found-from c n qs (t ∷ ts) on zero = let z : n + 0 ≡ n = omega arith in rw z (found-head t ts n c qs on.0.0 on.0.1)
found-from c n qs (t ∷ ts) on (suc i) =
    let s : n + suc i ≡ suc n + i = omega arith in
    found-tail t ts n (n + suc i) c qs (omega arith) ∙ rw s (found-from c (suc n) qs ts on.1 i)

count-from : (c n : ℕ) (qs : List ℕ) (ts : List Task) → Each (IsOn c qs) ts → task_count (cpus_with c qs n ts) ≡ length ts
count-from c n qs [] on = count-none c n qs
count-from c n qs (t ∷ ts) on = count-in t ts n c qs on.0.0 on.0.1 ∙ ap suc (count-from c (suc n) qs ts on.1)

up-is : (cpus : List DeclaredCpu) (n : ℕ) (ts : List Task) → ((i : ℕ) → found_in (n + i) 0 cpus ≡ slice_get ts i) → tasks_up cpus n (length ts) ≡ ts
up-is cpus n [] there = refl
up-is cpus n (t ∷ ts) there =
    let z : n + 0 ≡ n = omega arith in
    let first : found_in n 0 cpus ≡ Some t = rw z at (there 0) in
    rw first (ap (λ (l : List Task). t ∷ l) (up-is cpus (suc n) ts (λ i. (let s : suc n + i ≡ n + suc i = omega arith in rw s (there (suc i))))))

-- each task's CPU is one of those with a quantum
abbrev pub HasCpu : List ℕ → Task → Type 0
HasCpu quanta t = t.cpu < length quanta

on-all : (quanta : List ℕ) (ts : List Task) → Each (HasCpu quanta) ts → Each (IsOn 0 quanta) ts
on-all quanta [] on = tt
on-all quanta (t ∷ ts) on = ((omega arith, let l = on.0 in omega arith), on-all quanta ts on.1)

-- the tasks of CPUs that were made of tasks are these tasks
pub tasks_of-from : (quanta : List ℕ) (tasks : List Task) → Each (HasCpu quanta) tasks → tasks_of (cpus_from 0 quanta tasks) ≡ tasks
tasks_of-from quanta tasks on =
    let each = on-all quanta tasks on in
    rw (count-from 0 0 quanta tasks each) (up-is (cpus_from 0 quanta tasks) 0 tasks (λ i. found-from 0 0 quanta tasks each i))

-- ## CPUs whose tasks are numbered

found-on-cpu : (n c : ℕ) (ts : List DeclaredTask) (t : Task) → found_on n c ts ≡ Some t → t.cpu ≡ c
found-on-cpu n c [] t e = absurd cc
found-on-cpu n c (x ∷ ts) t e = by (x.task == n) refl (λ (f : found_on n c ts ≡ Some t). found-on-cpu n c ts t f)
  where
    by : (b : Bool) → (x.task == n) ≡ b → (found_on n c ts ≡ Some t → t.cpu ≡ c) → t.cpu ≡ c
    by true h further = let f : Some (record { pid = x.pid; cpu = c; acts = x.acts }) ≡ Some t = rw h at e in sym (ap (λ (o : Option Task). (or_none o).cpu) f)
    by false h further = further (rw h at e)

found-below : (n c : ℕ) (cpus : List DeclaredCpu) (t : Task) → found_in n c cpus ≡ Some t → t.cpu < c + length cpus
found-below n c [] t e = absurd cc
found-below n c (x ∷ cpus) t e = by (found_on n c x.tasks) refl (λ (f : found_in n (suc c) cpus ≡ Some t). found-below n (suc c) cpus t f)
  where
    by : (o : Option Task) → found_on n c x.tasks ≡ o → (found_in n (suc c) cpus ≡ Some t → t.cpu < suc c + length cpus) → t.cpu < c + suc (length cpus)
    by None h further = let l = further (rw h at e) in omega arith
    by (Some u) h further =
        let f : Some u ≡ Some t = rw h at e in
        let at : u.cpu ≡ c = found-on-cpu n c x.tasks u h in
        let same : u.cpu ≡ t.cpu = ap (λ (o : Option Task). (or_none o).cpu) f in omega arith

up-below : (cpus : List DeclaredCpu) (n k : ℕ) → 0 < length cpus → Each (λ t. t.cpu < length cpus) (tasks_up cpus n k)
up-below cpus n zero some = tt
up-below cpus n (suc k) some = (by (found_in n 0 cpus) refl, up-below cpus (suc n) k some)
  where
    by : (o : Option Task) → found_in n 0 cpus ≡ o → (or_none o).cpu < length cpus
    by None e = some
    by (Some t) e = let l = found-below n 0 cpus t e in omega arith

-- each task that was found is on one of the CPUs
cpu-below : (cpus : List DeclaredCpu) → Each (λ t. t.cpu < length cpus) (tasks_of cpus)
cpu-below [] = tt
cpu-below (x ∷ cpus) = up-below (x ∷ cpus) 0 (task_count (x ∷ cpus)) (omega arith)

pub length-tasks : (cpus : List DeclaredCpu) → length (tasks_of cpus) ≡ task_count cpus
length-tasks cpus = by 0 (task_count cpus)
  where
    by : (n k : ℕ) → length (tasks_up cpus n k) ≡ k
    by n zero = refl
    by n (suc k) = ap suc (by (suc n) k)

-- a task is found by its number
pub found-number : (cpus : List DeclaredCpu) → cpus_from 0 (quanta_of cpus) (tasks_of cpus) ≡ cpus → (n : ℕ) → found_in n 0 cpus ≡ slice_get (tasks_of cpus) n
found-number cpus numbered n =
    let lengths : length (quanta_of cpus) ≡ length cpus = length-map cpus (λ (c : DeclaredCpu). c.quantum) in
    let below : Each (HasCpu (quanta_of cpus)) (tasks_of cpus) = Each-weaker (λ t. t.cpu < length cpus) (HasCpu (quanta_of cpus)) (tasks_of cpus) (λ t l. (rw lengths l)) (cpu-below cpus) in
    let e : found_in (0 + n) 0 (cpus_from 0 (quanta_of cpus) (tasks_of cpus)) ≡ slice_get (tasks_of cpus) n =
    found-from 0 0 (quanta_of cpus) (tasks_of cpus) (on-all (quanta_of cpus) (tasks_of cpus) below) n in
    let z : 0 + n ≡ n = omega arith in
    rw z at (subst (λ (xs : List DeclaredCpu). found_in (0 + n) 0 xs ≡ slice_get (tasks_of cpus) n) numbered e)
