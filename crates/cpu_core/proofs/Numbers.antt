-- The numbers of a CPU's tasks rise, so that each task is found by its number.
use Rattle.std.proofs.Common.{cond, ◌≡◌, ◌≢◌, ℕ, zero, suc, ◌<◌, ◌≤◌, Bool, true, false, ◌==◌, List, [], ◌∷◌, set, slice_get, Some, refl, sym, ap, ◌∙◌, subst, arith}
use Rattle.std.specs.List.{list_any, AllByRecursion as Each}
use Rattle.std.proofs.lemmas.Bool.{eq-eqb, ne_eqb}
use Rattle.std.proofs.lemmas.Option.{none-some, same_Some}
use Rattle.ft_base.specs.Job.{Task as DeclaredTask}
use Rattle.ft_base.specs.Tasks.{tasks_from}
use Rattle.ft_base.proofs.Small.{Each-weaker}
use Rattle.task_core.specs.declared.task.Task.{Task}
use Rattle.cpu_core.specs.Cpus.{number_or, numbered, numbers}

-- ## numbers that rise

-- each is below those after it
abbrev pub Rises : List ℕ → Type 0
Rises [] = Unit {0}
Rises (n ∷ ns) = Each (λ v. n < v) ns × Rises ns

tasks-above : (c n : ℕ) (ts : List DeclaredTask) → Each (λ v. n ≤ v) (tasks_from c n ts)
tasks-above c n [] = tt
tasks-above c n (t ∷ ts) =
    by (t.cpu == c) (Each-weaker (λ v. suc n ≤ v) (λ v. n ≤ v) (tasks_from c (suc n) ts) (λ v h. omega arith) (tasks-above c (suc n) ts))
  where
    by : (b : Bool) → Each (λ v. n ≤ v) (tasks_from c (suc n) ts)
        → Each (λ v. n ≤ v) (cond b (n ∷ tasks_from c (suc n) ts) (tasks_from c (suc n) ts))
    by true more = (omega arith, more)
    by false more = more

pub tasks-rise : (c n : ℕ) (ts : List DeclaredTask) → Rises (tasks_from c n ts)
tasks-rise c n [] = tt
tasks-rise c n (t ∷ ts) = by (t.cpu == c) (tasks-rise c (suc n) ts)
  where
    by : (b : Bool) → Rises (tasks_from c (suc n) ts) → Rises (cond b (n ∷ tasks_from c (suc n) ts) (tasks_from c (suc n) ts))
    by true more = (Each-weaker (λ v. suc n ≤ v) (λ v. n < v) (tasks_from c (suc n) ts) (λ v h. omega arith) (tasks-above c (suc n) ts), more)
    by false more = more

-- ## tasks by their numbers

-- what is so of all numbers is so of a task's
each-number : (P : ℕ → Type 0) (ts : List Task) (i : ℕ) (t : Task) → Each P (numbers ts) → slice_get ts i ≡ Some t → P t.number.0
each-number P [] i t h e = absurd (none-some t e)
each-number P (x ∷ ts) zero t h e = subst (λ (y : Task). P y.number.0) (same_Some x t e) h.0
each-number P (x ∷ ts) (suc i) t h e = each-number P ts i t h.1 e

-- a task is found by its number
pub numbered-at : (ts : List Task) → Rises (numbers ts) → (i : ℕ) (t : Task) → slice_get ts i ≡ Some t → numbered ts t.number.0 ≡ Some t
numbered-at [] r i t e = absurd (none-some t e)
numbered-at (x ∷ ts) r zero t e =
    let own : (x.number.0 == x.number.0) ≡ true = eq-eqb x.number.0 x.number.0 refl in
    subst (λ (y : Task). cond (x.number.0 == y.number.0) (Some x) (numbered ts y.number.0) ≡ Some y) (same_Some x t e) (rw own refl)
numbered-at (x ∷ ts) r (suc i) t e =
    let lt : x.number.0 < t.number.0 = each-number (λ v. x.number.0 < v) ts i t r.0 e in
    let other : (x.number.0 == t.number.0) ≡ false = ne_eqb x.number.0 t.number.0 (λ same. omega arith) in
    rw other (numbered-at ts r.1 i t e)

-- any other one is found as before after a task is changed that keeps its number
pub numbered-set : (ts : List Task) (i : ℕ) (t u : Task) (k : ℕ) → slice_get ts i ≡ Some t → u.number ≡ t.number → k ≢ t.number.0
    → numbered (set ts i u) k ≡ numbered ts k
numbered-set [] i t u k e same ne = absurd (none-some t e)
numbered-set (x ∷ ts) zero t u k e same ne =
    let s : x ≡ t = same_Some x t e in
    let old : (x.number.0 == k) ≡ false = ne_eqb x.number.0 k (λ z. ne (sym z ∙ ap (λ (y : Task). y.number.0) s)) in
    let new : (u.number.0 == k) ≡ false = ne_eqb u.number.0 k (λ z. ne (sym z ∙ ap (λ n. n.0) same)) in
    rw (old, new) refl
numbered-set (x ∷ ts) (suc i) t u k e same ne = ap (λ o. cond (x.number.0 == k) (Some x) o) (numbered-set ts i t u k e same ne)

-- a changed task that keeps its number leaves the numbers as they were
pub numbers-set : (ts : List Task) (i : ℕ) (t u : Task) → slice_get ts i ≡ Some t → u.number ≡ t.number → numbers (set ts i u) ≡ numbers ts
numbers-set [] i t u e same = absurd (none-some t e)
numbers-set (x ∷ ts) zero t u e same =
    ap (λ n. n ∷ numbers ts) (ap (λ n. n.0) same ∙ ap (λ (y : Task). y.number.0) (sym (same_Some x t e)))
numbers-set (x ∷ ts) (suc i) t u e same = ap (λ (ns : List ℕ). x.number.0 ∷ ns) (numbers-set ts i t u e same)

-- nor does the number at any place change
pub number-set : (otherwise : ℕ) (ts : List Task) (i p : ℕ) (t u : Task) → slice_get ts i ≡ Some t → u.number ≡ t.number
    → number_or otherwise (slice_get (set ts i u) p) ≡ number_or otherwise (slice_get ts p)
number-set otherwise [] i p t u e same = absurd (none-some t e)
number-set otherwise (x ∷ ts) zero zero t u e same = ap (λ n. n.0) same ∙ ap (λ (y : Task). y.number.0) (sym (same_Some x t e))
number-set otherwise (x ∷ ts) zero (suc p) t u e same = refl
number-set otherwise (x ∷ ts) (suc i) zero t u e same = refl
number-set otherwise (x ∷ ts) (suc i) (suc p) t u e same = number-set otherwise ts i p t u e same

-- ## all tasks

-- what the numbers give is what the tasks give
abbrev pub Agrees : {X : Type 0} → (ℕ → X) → (Task → X) → List Task → Type 0
Agrees f g ts = (i : ℕ) (t : Task) → slice_get ts i ≡ Some t → f t.number.0 ≡ g t

pub any-numbers : (p : ℕ → Bool) (q : Task → Bool) (ts : List Task) → Agrees p q ts → list_any p (numbers ts) ≡ list_any q ts
any-numbers p q [] same = refl
any-numbers p q (t ∷ ts) same = rw (same 0 t refl, any-numbers p q ts (λ i u e. same (suc i) u e)) refl
