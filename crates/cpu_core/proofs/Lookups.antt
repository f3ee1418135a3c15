-- The tasks of a CPU of code, looked up as the machine does it.
use Rattle.std.proofs.Common.{cond, ◌≡◌, ℕ, zero, suc, ◌+◌, Bool, true, false, not, nat_le, nat_lt, List, [], ◌∷◌, ◌++◌, drop, filter, find, length, set, slice_get, Option, Some, None, IsSome, IsSomeAnd, option_map, refl, sym, ap, ◌∙◌, subst, arith, inl, inr}
use Rattle.std.specs.List.{list_any, AllByRecursion as Each}
use Rattle.std.specs.Option.{option_or}
use Rattle.std.proofs.lemmas.Bool.{cases_eq, lt-ltb}
use Rattle.std.proofs.lemmas.Bool.Decides.{nat_tests}
use Rattle.std.proofs.lemmas.List.{drop-map}
use Rattle.std.proofs.lemmas.Option.{none-some, slice_get-map}
use Rattle.ft_base.specs.declared.task.TaskAct.{TaskAct}
use Rattle.ft_base.specs.Job.{Job}
use Rattle.ft_base.specs.Tasks.{has_acts, tasks_of}
use Rattle.grace_core.specs.Views.{has_told}
use Rattle.return_stack.specs.Calls.{top_users}
use Rattle.word_map.specs.Words.{at_put}
use Rattle.word_machine.specs.Task.{TaskState, task_start, viewed}
use Rattle.word_machine.specs.Cpu.{first_of, has_more, quiet_next}
use Rattle.word_machine.proofs.Small.{put_other, put_same}
use Rattle.task_core.specs.declared.task.Task.{Task}
use Rattle.cpu_core.specs.Cpus.{number_or, numbered, numbers, state_or, tasks_by}
use Rattle.task_core.specs.Starts.{is_left, view_of}
use Rattle.task_core.specs.States.{state_of, users_in}
use Rattle.task_core.specs.TaskOps.{top}
use Rattle.cpu_core.specs.Turns.{any_left, first_left, is_untold, next_left}
use Rattle.cpu_core.proofs.Numbers.{Agrees, Rises, any-numbers, numbered-at, numbered-set, numbers-set, tasks-rise}
use Rattle.cpu_core.proofs.Places.{first-case, more-below}
use Rattle.task_core.proofs.ActsLeft.{quiet-is}
use Rattle.cpu_core.proofs.Turns.{after-place, drop-get, first-append, first-below, first-number, first-turn, next-turn, turn-left, turn-there}

-- ## acts that are left

acts-left : (gone : ℕ) (acts : List TaskAct) → has_acts (drop gone acts) ≡ nat_lt gone (length acts)
acts-left zero [] = refl
acts-left zero (a ∷ acts) = sym (lt-ltb 0 (suc (length acts)) (omega arith))
acts-left (suc gone) [] = grind (arith, nat_tests)
acts-left (suc gone) (a ∷ acts) = acts-left gone acts ∙ sym (more-below gone (length acts))

pub left-is : (t : Task) → has_acts (state_of t).acts ≡ is_left t
left-is t = acts-left t.acts.gone t.acts.all

-- ## places

pub get-set : {A : Type 0} (xs : List A) (i : ℕ) (x y : A) → slice_get xs i ≡ Some x → slice_get (set xs i y) i ≡ Some y
get-set [] i x y e = absurd (none-some x e)
get-set (z ∷ xs) zero x y e = refl
get-set (z ∷ xs) (suc i) x y e = get-set xs i x y e

pub each-set : {A : Type 0} (P : A → Type 0) (xs : List A) (i : ℕ) (y : A) → Each P xs → P y → Each P (set xs i y)
each-set P [] i y k p = tt
each-set P (x ∷ xs) zero y k p = (p, k.1)
each-set P (x ∷ xs) (suc i) y k p = (k.0, each-set P xs i y k.1 p)

-- ## what a poll looks at

pub view-is : (t : Task) → viewed (state_of t) ≡ view_of t
view-is t = rw (quiet-is (top t) (users_in (top_users t.stacks.calls)) t.moment, left-is t) refl

-- the first of these tasks whose word is to change, by its number
untold-number : (tasks : ℕ → TaskState) (r : ℕ) (ts : List Task)
    → Agrees (λ n. has_told r (viewed (tasks n))) (λ t. has_told r (view_of t)) ts
    → quiet_next tasks r (numbers ts) ≡ option_map (λ (t : Task). t.number.0) (find (is_untold r) ts)
untold-number tasks r [] same = refl
untold-number tasks r (t ∷ ts) same =
    ap (λ b. cond b (quiet_next tasks r (numbers ts)) (Some t.number.0)) (same 0 t refl)
    ∙ by (has_told r (view_of t)) (untold-number tasks r ts (λ i u e. same (suc i) u e))
  where
    by : (b : Bool) → quiet_next tasks r (numbers ts) ≡ option_map (λ (u : Task). u.number.0) (find (is_untold r) ts)
        → cond b (quiet_next tasks r (numbers ts)) (Some t.number.0)
        ≡ option_map (λ (u : Task). u.number.0) (cond (not b) (Some t) (find (is_untold r) ts))
    by true more = more
    by false more = refl

-- ## tasks by number

module _ (job : Job) (n : ℕ) (ts : List Task) (is : numbers ts ≡ tasks_of job n) where
  pub rises : Rises (numbers ts)
  rises = subst (λ ns. Rises ns) (sym is) (tasks-rise n 0 job.tasks)

  -- a task is found by its number
  pub lookup : (i : ℕ) (t : Task) → slice_get ts i ≡ Some t → numbered ts t.number.0 ≡ Some t
  lookup i t e = numbered-at ts rises i t e

  -- the machine's task
  pub state-at : (i : ℕ) (t : Task) → slice_get ts i ≡ Some t → tasks_by job ts t.number.0 ≡ state_of t
  state-at i t e = ap (λ o. state_or (task_start job t.number.0) o) (lookup i t e)

  -- it has an act left where the machine's has
  pub more-at : (i : ℕ) (t : Task) → slice_get ts i ≡ Some t → has_more (tasks_by job ts) t.number.0 ≡ is_left t
  more-at i t e = ap (λ (x : TaskState). has_acts x.acts) (state-at i t e) ∙ left-is t

  -- a task has an act left
  pub any-more : list_any (λ t. has_more (tasks_by job ts) t) (tasks_of job n) ≡ any_left ts
  any-more = rw (← is) (any-numbers (λ t. has_more (tasks_by job ts) t) is_left ts more-at)

  -- the first task whose word is to change
  pub untold-is : (r : ℕ) → quiet_next (tasks_by job ts) r (tasks_of job n) ≡ option_map (λ (t : Task). t.number.0) (find (is_untold r) ts)
  untold-is r =
      rw (← is)
      (untold-number (tasks_by job ts) r ts
      (λ i t e. ap (λ (x : TaskState). has_told r (viewed x)) (state-at i t e) ∙ ap (λ v. has_told r v) (view-is t)))

  -- ## turns

  -- the first task that has an act left
  pub first-is : first_of (λ t. has_more (tasks_by job ts) t) (length job.tasks) (tasks_of job n) ≡ number_or (length job.tasks) (slice_get ts (first_left ts))
  first-is = rw (← is, first-turn ts) (first-number (λ t. has_more (tasks_by job ts) t) (length job.tasks) ts more-at)

  module _ (i : ℕ) (t : Task) (e : slice_get ts i ≡ Some t) where
    -- the tasks above this one, and those up to it
    abbrev above : List ℕ
    above = filter (λ v. nat_lt t.number.0 v) (numbers ts)

    abbrev upto : List ℕ
    upto = filter (λ v. nat_le v t.number.0) (numbers ts)

    abbrev more : ℕ → Bool
    more u = has_more (tasks_by job ts) u

    above-is : above ≡ numbers (drop (suc i) ts)
    above-is =
        after-place (numbers ts) rises i t.number.0 (slice_get-map (λ u. u.number.0) ts i ∙ ap (λ o. option_map (λ (u : Task). u.number.0) o) e)
        ∙ drop-map (λ u. u.number.0) (suc i) ts

    above-agrees : Agrees more is_left (drop (suc i) ts)
    above-agrees k u at = more-at (suc i + k) u (drop-get ts (suc i) k ∙ at)

    -- the next task after this one
    pub next-is : first_of (λ u. has_more (tasks_by job ts) u) t.number.0 (filter (λ v. nat_lt t.number.0 v) (tasks_of job n) ++ filter (λ v. nat_le v t.number.0) (tasks_of job n))
        ≡ number_or 0 (slice_get ts (next_left ts i))
    next-is =
        rw (← is, next-turn ts i, e, first-append more t.number.0 above upto, above-is, first-number more (first_of more t.number.0 upto) (drop (suc i) ts) above-agrees)
        (first-case is_left (drop (suc i) ts)
        (λ o f. number_or (first_of more t.number.0 upto) f ≡ number_or 0 (option_or f (option_or (find is_left ts) (Some t))))
        (λ none.
        first-below more t.number.0 t.number.0 (numbers ts) (ap (λ ns. list_any more ns) above-is ∙ any-numbers more is_left (drop (suc i) ts) above-agrees ∙ none)
        ∙ first-number more t.number.0 ts more-at
        ∙ by (find is_left ts))
        (λ k x at left. refl))
      where
        by : (o : Option Task) → number_or t.number.0 o ≡ number_or 0 (option_or o (Some t))
        by None = refl
        by (Some x) = refl

  -- ## a task is changed

  module _ (i : ℕ) (t u : Task) (at : slice_get ts i ≡ Some t) (same : u.number ≡ t.number) where
    changed-rises : Rises (numbers (set ts i u))
    changed-rises = subst (λ ns. Rises ns) (sym (numbers-set ts i t u at same)) rises

    changed-own : tasks_by job (set ts i u) t.number.0 ≡ state_of u
    changed-own =
        let own : u.number.0 ≡ t.number.0 = ap (λ m. m.0) same in
        let found : numbered (set ts i u) u.number.0 ≡ Some u = numbered-at (set ts i u) changed-rises i u (get-set ts i t u at) in
        ap (λ o. state_or (task_start job t.number.0) o) (ap (λ k. numbered (set ts i u) k) (sym own) ∙ found)

    put-at : (k : ℕ) → at_put (tasks_by job ts) t.number.0 (state_of u) k ≡ tasks_by job (set ts i u) k
    put-at k = elim (cases_eq k t.number.0) [
      | inl e ↦ subst (λ m. at_put (tasks_by job ts) t.number.0 (state_of u) m ≡ tasks_by job (set ts i u) m) (sym e)
          (put_same (tasks_by job ts) t.number.0 (state_of u) ∙ sym changed-own)
      | inr ne ↦ put_other (tasks_by job ts) t.number.0 (state_of u) k ne ∙ ap (λ o. state_or (task_start job k) o) (sym (numbered-set ts i t u k at same ne))
    ]

  pub put-is : (i : ℕ) (t u : Task) → slice_get ts i ≡ Some t → u.number ≡ t.number
      → at_put (tasks_by job ts) t.number.0 (state_of u) ≡ tasks_by job (set ts i u)
  put-is i t u at same = λ j k. put-at i t u at same k j

-- ## the next turn

-- it is there
pub next-there : (ts : List Task) (i : ℕ) (t : Task) → slice_get ts i ≡ Some t → IsSome (slice_get ts (next_left ts i))
next-there ts i t e = rw (next-turn ts i) (turn-there ts i t e)

-- it has an act left, if one of the tasks has
pub next-left : (ts : List Task) (i : ℕ) → any_left ts ≡ true → IsSomeAnd (slice_get ts (next_left ts i)) (λ u. is_left u ≡ true)
next-left ts i any = rw (next-turn ts i) (turn-left ts i any)
