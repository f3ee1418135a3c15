-- So a task has no more items than the bound of a call for each call of its script, and a history no more than these and two a command.
use Rattle.std.proofs.Common.{cond, if◌then◌else◌, ◌≡◌, ℕ, zero, suc, ◌+◌, ◌*◌, ◌<◌, ◌≤◌, Bool, true, false, ◌==◌, List, [], ◌∷◌, ◌++◌, length, reverse, Some, is_some, refl, sym, ap, ap₂, ◌∙◌, subst, arith, inl, inr, mul-zero}
use Rattle.std.specs.Prelude.{get_or, count_by}
use Rattle.std.proofs.Math.Nat.{suc-mul, mul-suc}
use Rattle.std.proofs.lemmas.Bool.{cases_lt}
use Rattle.std.proofs.lemmas.Bool.Decides.{eqb_tells}
use Rattle.std.proofs.lemmas.List.{get_or_past, reverse-append, length-reverse}
use Rattle.std.proofs.lemmas.List.Sums.{sum_by-cons}
use Rattle.ft_base.specs.declared.item.Item.{Item}
use Rattle.ft_base.specs.declared.item.Item.TheVariants.{Begin, Return}
use Rattle.ft_base.specs.Versions.{levels}
use Rattle.ft_base.specs.Job.{Job, Task, Spec, no_task, commands}
use Rattle.ft_base.specs.Desk.{plain_spec}
use Rattle.ft_base.proofs.Small.{==-refl, Each-weaker}
use Rattle.user_specs.specs.Bound.{acting_in, call_bound_in, nested_bound}
use Rattle.ft_hist.specs.Past.{is_of, done, begun}
use Rattle.ft_hist.specs.Plain.{plain, PlainTask}
use Rattle.ft_hist.specs.Rules.{IsLegal, IsLegalPast}
use Rattle.ft_hist.proofs.Steps.{run-holds}
use Rattle.ft_hist.proofs.Since.{touches}
use Rattle.ft_hist.proofs.WindowLaws.{legal-counts}
use Rattle.ft_hist.proofs.Numbers.{some-run}
use Rattle.history_laws.specs.Bound.{items_of, calls_in, calls_of, all_calls}
use Rattle.history_laws.proofs.Credit.{has_act, sum_of, cost_with, bound}
use Rattle.ft_hist.proofs.Carries.{touches-other}
use Rattle.history_laws.proofs.Paid.{B, Paid, paid-other, paid-own, own-task}

module _ (job : Job) (t : ℕ) where
  -- ## an item of another actor

  other-item : (past : List Item) (item : Item) (s : PlainTask) → is_of t item ≡ false → plain job t past ≡ Some s → Paid job t past s → Paid job t (item ∷ past) s
  other-item past item s other here h =
      paid-other job t past item s other (Each-weaker (λ f. f.call.task.0 ≡ t) (λ f. touches f.call item ≡ false) s.stack (λ f own. touches-other t item f.call other own) (own-task job t past s here)) h

  pub paid-for : (past : List Item) (s : PlainTask) → plain job t past ≡ Some s → IsLegalPast job past → Paid job t past s
  unfolding IsLegalPast
  paid-for = run-holds job t (λ past s. IsLegalPast job past → Paid job t past s) (λ l. record { paid = omega arith; guarded = tt })
      (λ item past p s own here k h l. paid-own job t past item p s own l here k (h l.1))
      (λ item past s other here h l. other-item past item s other here (h l.1))

  pub items-paid : (past : List Item) → IsLegalPast job past → items_of t past ≤ B job t * calls_of job t
  items-paid past l =
      let r = some-run job t past l in
      let h = (paid-for past r.0 r.1 l).paid in
      omega (arith, h)

-- ## the bound is that of the script's limit

module _ (job : Job) where
  abbrev acts : ℕ → ℕ
  acts zero = 0
  acts (suc n) = (if has_act job n then 1 else 0) + acts n

  sum-is : (b n : ℕ) → sum_of job (cost_with job b) (λ u. false) n ≡ 5 * n + acts n * b
  sum-is b zero = omega arith
  sum-is b (suc n) = by (has_act job n) refl (sum-is b n)
    where
      by : (x : Bool) → has_act job n ≡ x → sum_of job (cost_with job b) (λ u. false) n ≡ 5 * n + acts n * b
          → (5 + (cond x b 0)) + sum_of job (cost_with job b) (λ u. false) n ≡ 5 * suc n + ((cond x 1 0) + acts n) * b
      by true e more = let q = suc-mul (acts n) b in omega (arith, more, q)
      by false e more = omega (arith, more)

-- a count over a list, place by place
abbrev places : List Spec → ℕ → ℕ
places specs zero = 0
places specs (suc n) = (if is_some (get_or specs n plain_spec).act then 1 else 0) + places specs n

places-cons : (s : Spec) (specs : List Spec) (n : ℕ) → places (s ∷ specs) (suc n) ≡ (if is_some s.act then 1 else 0) + places specs n
places-cons s specs zero = omega arith
places-cons s specs (suc n) = let more = places-cons s specs n in omega (arith, more)

places-count : (specs : List Spec) → places specs (length specs) ≡ count_by (λ s. is_some s.act) specs
places-count [] = refl
places-count (s ∷ specs) = places-cons s specs (length specs) ∙ ap (λ n. (if is_some s.act then 1 else 0) + n) (places-count specs) ∙ sym (count-cons s specs)
  where
    count-cons : (s : Spec) (specs : List Spec) → count_by (λ x. is_some x.act) (s ∷ specs) ≡ (if is_some s.act then 1 else 0) + count_by (λ x. is_some x.act) specs
    count-cons s specs = sum_by-cons (λ (x : Spec). cond (is_some x.act) 1 0) s specs

acts-places : (job : Job) (n : ℕ) → acts job n ≡ places job.users n
acts-places job zero = refl
acts-places job (suc n) = ap (λ k. (if has_act job n then 1 else 0) + k) (acts-places job n)

bound-nested : (job : Job) (n : ℕ) → bound job n ≡ nested_bound (length job.users) (acting_in job.users) n
bound-nested job zero = refl
bound-nested job (suc n) =
    let acting : acts job (length job.users) ≡ acting_in job.users = acts-places job (length job.users) ∙ places-count job.users in
    let all = sum-is job (bound job n) (length job.users) in
    let e : acts job (length job.users) * bound job n ≡ acting_in job.users * nested_bound (length job.users) (acting_in job.users) n = ap₂ (λ a b. a * b) acting (bound-nested job n) in
    omega (arith, all, e)

bound-is : (job : Job) → bound job (2 * levels job) ≡ call_bound_in job
bound-is job = bound-nested job (2 * levels job)

pub items-most : (job : Job) (items : List Item) (t : ℕ) → IsLegalPast job items → items_of t items ≤ call_bound_in job * calls_of job t
items-most job items t l = subst (λ b. items_of t items ≤ b * calls_of job t) (bound-is job) (items-paid job t items l)

-- ## the whole history

-- the items of the tasks below n
abbrev of_tasks : ℕ → List Item → ℕ
of_tasks zero items = 0
of_tasks (suc n) items = items_of n items + of_tasks n items

module _ (item : Item) (t : ℕ) (is : (k : ℕ) → is_of k item ≡ (t == k)) (past : List Item) where
  of-none : (n : ℕ) → n ≤ t → of_tasks n (item ∷ past) ≡ of_tasks n past
  of-none zero le = refl
  of-none (suc n) le =
      let other : (t == n) ≡ false = elim (eqb_tells t n) [ inl e ↦ (let q = e.1 in absurd (omega (arith, le, q))) | inr e ↦ e.0 ] in
      rw (is n, other, of-none n (omega arith)) refl

  of-more : (n : ℕ) → t < n → of_tasks n (item ∷ past) ≡ suc (of_tasks n past)
  of-more zero lt = absurd (omega (arith, lt))
  of-more (suc n) lt = elim (eqb_tells t n) [
    | inl e ↦ (let none = of-none n (let q = e.1 in omega (arith, q)) in rw (is n, e.0) (omega (arith, none)))
    | inr e ↦ (let ne = e.1 in let more = of-more n (less t n lt ne) in rw (is n, e.0) (omega (arith, more)))
  ]
    where
      less : (a b : ℕ) → a < suc b → (a ≡ b → ⊥) → a < b
      less a b l ne = omega (arith, l, ne)

mul-plus : (b c n : ℕ) → b * (c + n) ≡ b * c + b * n
mul-plus b zero n = let e : 0 + n ≡ n = omega arith in ap (λ k. b * k) e ∙ (let z = mul-zero b in omega (arith, z))
mul-plus b (suc c) n =
    let e : suc c + n ≡ suc (c + n) = omega arith in
    let one = mul-suc b (c + n) in
    let two = mul-suc b c in
    let more = mul-plus b c n in
    ap (λ k. b * k) e ∙ omega (arith, one, two, more)

module _ (job : Job) where
  -- a task that the job doesn't have has no items
  none-beyond : (items : List Item) (t : ℕ) → IsLegalPast job items → length job.tasks ≤ t → items_of t items ≡ 0
  none-beyond items t l ge =
      let most = items-most job items t l in
      let none : calls_of job t ≡ 0 = rw (get_or_past job.tasks t no_task ge) refl in
      let zero-is : call_bound_in job * calls_of job t ≡ 0 = rw none (mul-zero (call_bound_in job)) in
      omega (arith, most, zero-is)

  within : (item : Item) (past : List Item) (t : ℕ) → is_of t item ≡ true → IsLegalPast job (item ∷ past) → t < length job.tasks
  within item past t own l = elim (cases_lt t (length job.tasks)) [
    | inl lt ↦ lt
    | inr ge ↦ (let none : items_of t (item ∷ past) ≡ 0 = none-beyond (item ∷ past) t l ge in let some : suc (items_of t past) ≡ 0 = rw own at none in absurd (omega (arith, some)))
  ]

  abbrev Counted : List Item → Type 0
  Counted past = length past ≡ (done past + begun past) + of_tasks (length job.tasks) past

  task-item : (item : Item) (past : List Item) (t : ℕ) → ((k : ℕ) → is_of k item ≡ (t == k)) → done (item ∷ past) ≡ done past → begun (item ∷ past) ≡ begun past → IsLegalPast job (item ∷ past) → Counted past → Counted (item ∷ past)
  task-item item past t is d b l h =
      let lt = within item past t (is t ∙ ==-refl t) l in
      let more = of-more item t is past (length job.tasks) lt in
      rw (d, b, more) (omega (arith, h))

  still : (item : Item) (past : List Item) → ((k : ℕ) → is_of k item ≡ false) → (n : ℕ) → of_tasks n (item ∷ past) ≡ of_tasks n past
  still item past none zero = refl
  still item past none (suc n) = rw (none n, still item past none n) refl

  counted : (past : List Item) → IsLegalPast job past → Counted past
  unfolding IsLegalPast
  counted [] l = by (length job.tasks)
    where
      by : (n : ℕ) → 0 ≡ (0 + 0) + of_tasks n []
      by zero = refl
      by (suc n) = let h = by n in omega (arith, h)
  counted (Begin k ∷ past) l = let h = counted past l.1 in let s = still (Begin k) past (λ n. refl) (length job.tasks) in omega (arith, h, s)
  counted (Return k a ∷ past) l = let h = counted past l.1 in let s = still (Return k a) past (λ n. refl) (length job.tasks) in omega (arith, h, s)
  counted (item ∷ past) l = task-item item past _ (λ k. refl) refl refl l (counted past l.1)

  few-commands : (past : List Item) → IsLegalPast job past → begun past ≤ length (commands job)
  unfolding IsLegalPast
  few-commands [] l = omega arith
  few-commands (Begin k ∷ past) l = let lt = l.0.commands.0.stands in omega (arith, lt)
  few-commands (_ ∷ past) l = few-commands past l.1

  -- the calls of the tasks below n
  abbrev calls_below : List Task → ℕ → ℕ
  calls_below ts zero = 0
  calls_below ts (suc n) = calls_in (get_or ts n no_task).acts + calls_below ts n

  calls-cons : (t : Task) (ts : List Task) (n : ℕ) → calls_below (t ∷ ts) (suc n) ≡ calls_in t.acts + calls_below ts n
  calls-cons t ts zero = omega arith
  calls-cons t ts (suc n) = let more = calls-cons t ts n in omega (arith, more)

  calls-all : (ts : List Task) → calls_below ts (length ts) ≡ all_calls ts
  calls-all [] = refl
  calls-all (t ∷ ts) = calls-cons t ts (length ts) ∙ ap (λ n. calls_in t.acts + n) (calls-all ts)

  tasks-most : (past : List Item) → IsLegalPast job past → (n : ℕ) → of_tasks n past ≤ call_bound_in job * calls_below job.tasks n
  tasks-most past l zero = omega arith
  tasks-most past l (suc n) =
      let one = items-most job past n l in
      let more = tasks-most past l n in
      let both = mul-plus (call_bound_in job) (calls_of job n) (calls_below job.tasks n) in
      omega (arith, one, more, both)

  pub history-most : (past : List Item) → IsLegalPast job past → length past ≤ 2 * length (commands job) + call_bound_in job * all_calls job.tasks
  history-most past l =
      let c = counted past l in
      let few = few-commands past l in
      let counts = (legal-counts job past l).0 in
      let most = tasks-most past l (length job.tasks) in
      let all = ap (λ n. call_bound_in job * n) (calls-all job.tasks) in
      omega (arith, c, few, counts, most, all)

-- ## the items in their order

items-append : (t : ℕ) (xs ys : List Item) → items_of t (xs ++ ys) ≡ items_of t xs + items_of t ys
items-append t [] ys = omega arith
items-append t (x ∷ xs) ys = by (is_of t x) (items-append t xs ys)
  where
    by : (b : Bool) → items_of t (xs ++ ys) ≡ items_of t xs + items_of t ys → cond b (suc (items_of t (xs ++ ys))) (items_of t (xs ++ ys)) ≡ cond b (suc (items_of t xs)) (items_of t xs) + items_of t ys
    by true e = omega (arith, e)
    by false e = omega (arith, e)

items-reverse : (t : ℕ) (xs : List Item) → items_of t (reverse xs) ≡ items_of t xs
items-reverse t [] = refl
items-reverse t (x ∷ xs) =
    let e = ap (λ (ys : List Item). items_of t ys) (reverse-append (x ∷ []) xs) ∙ items-append t (reverse xs) (x ∷ []) in
    e ∙ by (is_of t x) (items-reverse t xs)
  where
    by : (b : Bool) → items_of t (reverse xs) ≡ items_of t xs → items_of t (reverse xs) + cond b 1 0 ≡ cond b (suc (items_of t xs)) (items_of t xs)
    by true e = omega (arith, e)
    by false e = omega (arith, e)

pub task-bounded : (job : Job) (items : List Item) (t : ℕ) → IsLegal job items → items_of t items ≤ call_bound_in job * calls_of job t
unfolding IsLegal
task-bounded job items t l = subst (λ n. n ≤ call_bound_in job * calls_of job t) (items-reverse t items) (items-most job (reverse items) t l)

pub history-bounded : (job : Job) (items : List Item) → IsLegal job items → length items ≤ 2 * length (commands job) + call_bound_in job * all_calls job.tasks
unfolding IsLegal
history-bounded job items l = subst (λ n. n ≤ 2 * length (commands job) + call_bound_in job * all_calls job.tasks) (length-reverse items) (history-most job (reverse items) l)
