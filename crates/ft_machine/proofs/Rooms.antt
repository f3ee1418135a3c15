-- The room of all CPUs together is the room of all tasks.
use Rattle.std.proofs.Common.{cond, ◌≡◌, ℕ, zero, suc, ◌+◌, ◌-◌, ◌*◌, ◌<◌, ◌≤◌, true, false, ◌==◌, List, [], ◌∷◌, length, get_or, sum_by, inl, inr, refl, sym, ap, ap₂, ◌∙◌, subst, arith}
use Rattle.std.specs.List.{AllByRecursion as Each}
use Rattle.std.proofs.Math.Nat.{mul-add}
use Rattle.std.proofs.lemmas.Bool.{eq-eqb}
use Rattle.std.proofs.lemmas.Bool.Decides.{eqb_tells, nat_tests}
use Rattle.std.proofs.lemmas.List.Sums.{sum_by-cons}
use Rattle.ft_base.specs.declared.limits.TheConstants.{ITEMS}
use Rattle.ft_base.specs.Job.{Job, Task, no_task}
use Rattle.ft_base.specs.Tasks.{tasks_from}
use Rattle.user_specs.specs.Bound.{call_bound_in}
use Rattle.history_laws.specs.Bound.{all_calls, calls_in, calls_of}
use Rattle.word_machine.specs.Laws.{room_on}
use Rattle.word_machine.specs.Limits.{IsLimited}
use Rattle.ft_machine.proofs.Plans.{Stands, own-on, stands-head, stands-tail}

-- ## calls of the tasks on CPUs

module _ (all : List Task) where
  -- of tasks from a number on, those on a CPU
  abbrev calls_on : ℕ → ℕ → List Task → ℕ
  calls_on c n ts = sum_by (λ t. calls_in (get_or all t no_task).acts) (tasks_from c n ts)

  -- and those on the CPUs below one
  abbrev calls_below : ℕ → ℕ → List Task → ℕ
  calls_below zero n ts = 0
  calls_below (suc m) n ts = calls_on m n ts + calls_below m n ts

  module _ (n : ℕ) (t : Task) (ts : List Task) (h : Stands all n (t ∷ ts)) where
    own-call : calls_on t.cpu n (t ∷ ts) ≡ calls_in t.acts + calls_on t.cpu (suc n) ts
    own-call =
        let e : calls_in (get_or all n no_task).acts ≡ calls_in t.acts = ap (λ (x : Task). calls_in x.acts) (stands-head all n t ts h) in
        let same : (t.cpu == t.cpu) ≡ true = eq-eqb t.cpu t.cpu refl in
        ap (λ b. sum_by (λ v. calls_in (get_or all v no_task).acts) (cond b (n ∷ tasks_from t.cpu (suc n) ts) (tasks_from t.cpu (suc n) ts))) same
        ∙ sum_by-cons (λ v. calls_in (get_or all v no_task).acts) n (tasks_from t.cpu (suc n) ts)
        ∙ ap (λ k. k + calls_on t.cpu (suc n) ts) e

    other-call : (c : ℕ) → (t.cpu == c) ≡ false → calls_on c n (t ∷ ts) ≡ calls_on c (suc n) ts
    other-call c ne = ap (λ b. sum_by (λ v. calls_in (get_or all v no_task).acts) (cond b (n ∷ tasks_from c (suc n) ts) (tasks_from c (suc n) ts))) ne

    -- a task on none of them
    above : (m : ℕ) → m ≤ t.cpu → calls_below m n (t ∷ ts) ≡ calls_below m (suc n) ts
    above zero le = refl
    above (suc m) le =
        let ne : (t.cpu == m) ≡ false = grind (arith, nat_tests) in
        ap₂ (λ a b. a + b) (other-call m ne) (above m (omega (arith, le)))

    -- a task on one of them
    one-call : (m : ℕ) → t.cpu < m → calls_below m n (t ∷ ts) ≡ calls_in t.acts + calls_below m (suc n) ts
    one-call zero lt = absurd (omega (arith, lt))
    one-call (suc m) lt = elim (eqb_tells t.cpu m) [
      | inl e ↦ (let same = e.1 in
          let one : calls_on m n (t ∷ ts) ≡ calls_in t.acts + calls_on m (suc n) ts =
          subst (λ c. calls_on c n (t ∷ ts) ≡ calls_in t.acts + calls_on c (suc n) ts) same own-call in
          let rest = above m (omega (arith, same)) in
          omega (arith, one, rest))
      | inr e ↦ (let ne = e.1 in
          let none = other-call m e.0 in
          let more = one-call m (below t.cpu m lt ne) in
          omega (arith, none, more))
    ]
      where
        below : (x y : ℕ) → x < suc y → (x ≡ y → ⊥) → x < y
        below x y less ne = omega (arith, less, ne)

  none-below : (m n : ℕ) → calls_below m n [] ≡ 0
  none-below zero n = refl
  none-below (suc m) n = let more = none-below m n in omega (arith, more)

  -- the tasks are all on these CPUs
  all-below : (m n : ℕ) (ts : List Task) → Stands all n ts → Each (λ t. t.cpu < m) ts → calls_below m n ts ≡ all_calls ts
  all-below m n [] h on = none-below m n
  all-below m n (t ∷ ts) h on =
      let one = one-call n t ts h m on.0 in
      let more = all-below m (suc n) ts (stands-tail all n t ts h) on.1 in
      omega (arith, one, more)

-- ## the rooms

-- of the CPUs below one
abbrev pub rooms_below : Job → ℕ → ℕ
rooms_below job zero = 0
rooms_below job (suc n) = room_on job n + rooms_below job n

module _ (job : Job) where
  rooms-are : (n : ℕ) → rooms_below job n ≡ call_bound_in job * calls_below job.tasks n 0 job.tasks
  rooms-are zero = omega arith
  rooms-are (suc n) =
      let one : room_on job n ≡ call_bound_in job * calls_on job.tasks n 0 job.tasks =
      ap (λ ts. call_bound_in job * sum_by (λ t. calls_of job t) ts) (sym (own-on job n)) in
      let more = rooms-are n in
      let both = mul-add (call_bound_in job) (calls_on job.tasks n 0 job.tasks) (calls_below job.tasks n 0 job.tasks) in
      omega (arith, one, more, both)

  rooms-grow : (n m : ℕ) → rooms_below job n ≤ rooms_below job (n + m)
  rooms-grow n zero = let e : n ≡ n + 0 = omega arith in subst (λ k. rooms_below job n ≤ rooms_below job k) e (omega arith)
  rooms-grow n (suc m) =
      let more = rooms-grow n m in
      let e : suc (n + m) ≡ n + suc m = omega arith in
      subst (λ k. rooms_below job n ≤ rooms_below job k) e (omega (arith, more))

  module _ (limited : IsLimited job) where
    -- of all CPUs
    pub rooms-all : rooms_below job (length job.quanta) ≡ call_bound_in job * all_calls job.tasks
    rooms-all =
        let e : (i : ℕ) → 0 + i ≡ i = λ i. omega arith in
        rooms-are (length job.quanta)
        ∙ ap (λ n. call_bound_in job * n)
        (all-below job.tasks (length job.quanta) 0 job.tasks (λ i. ap (λ k. get_or job.tasks k no_task) (e i)) limited.placed)

    -- never too much
    pub rooms-few : (n : ℕ) → n ≤ length job.quanta → rooms_below job n ≤ ITEMS
    rooms-few n le =
        let more = rooms-grow n (length job.quanta - n) in
        let e : n + (length job.quanta - n) ≡ length job.quanta = omega (arith, le) in
        let most = subst (λ k. rooms_below job n ≤ rooms_below job k) e more in
        let all = rooms-all in
        omega (arith, most, all, limited.items)
