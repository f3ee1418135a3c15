-- An open callback of a call without exits is that of a visit; a task that the job does not have has no items.
use Rattle.std.proofs.Common.{cond, ◌≡◌, ℕ, zero, suc, ◌≤◌, arith, Bool, true, false, ◌&&◌, ◌||◌, ◌==◌, List, [], ◌∷◌, length, Some, None, inl, inr, refl, sym, ap, ◌∙◌, subst, eqb-true}
use Rattle.std.specs.Prelude.{Option, IsSome, get_or}
use Rattle.std.specs.List.{list_any, AllByRecursion as Each}
use Rattle.ft_base.specs.declared.number.CallNo.{CallNo}
use Rattle.ft_base.specs.declared.item.Item.{Item}
use Rattle.ft_base.specs.declared.item.Item.TheVariants.{Back, BackEnd, Refuse, Exit, ExitEnd}
use Rattle.ft_base.specs.declared.task.TaskAct.TheVariants.{Call}
use Rattle.ft_base.specs.Same.{same_call}
use Rattle.ft_base.specs.Job.{Job, Task, no_task}
use Rattle.ft_base.proofs.Small.{false_true, ==-refl, or-true, or-true_either, or-false_both}
use Rattle.ft_hist.specs.Past.{is_of, done, Callback, callbacks, ended, Visit, visit, all_visits, visits, exits}
use Rattle.ft_hist.specs.Plain.{plain, at_start, PlainTask}
use Rattle.ft_hist.proofs.Carries.{of_task, carries_item}
use Rattle.ft_hist.proofs.Steps.{Step, step_begin, step_return, step_enter, acts_ahead, own-step, run-holds}

-- past the end of a list there is nothing
pub beyond : {A : Type 0} (xs : List A) (i : ℕ) (x : A) → length xs ≤ i → get_or xs i x ≡ x
beyond [] i x le = refl
beyond (y ∷ ys) zero x le = absurd (omega (arith, le))
beyond (y ∷ ys) (suc i) x le = beyond ys i x (omega (arith, le))

-- a callback of this call and user is among these
abbrev pub called : CallNo → ℕ → List Callback → Bool
called call u bs = list_any (λ b. same_call b.call call && (b.user == u)) bs

called_less : (call c : CallNo) (u v : ℕ) (bs : List Callback) → called call u (ended c v bs) ≡ true → called call u bs ≡ true
called_less call c u v [] e = e
called_less call c u v (b ∷ bs) e = by_same (same_call b.call c && (b.user == v)) e (λ x. called_less call c u v bs x)
  where
    by_same : (t : Bool) → called call u (cond t bs (b ∷ ended c v bs)) ≡ true → (called call u (ended c v bs) ≡ true → called call u bs ≡ true)
        → ((same_call b.call call && (b.user == u)) || called call u bs) ≡ true
    by_same true x less = rw x (or-true (same_call b.call call && (b.user == u)))
    by_same false x less = elim (or-true_either (same_call b.call call && (b.user == u)) (called call u (ended c v bs)) x) [
      | inl y ↦ rw y refl
      | inr y ↦ rw (less y) (or-true (same_call b.call call && (b.user == u)))
    ]

abbrev pub meets : ℕ → List Visit → Bool
meets u ms = list_any (λ m. m.user == u) ms

-- a callback that is open before the call has exits is that of a visit
module _ (job : Job) (call : CallNo) (u : ℕ) where
  called_now : (m : Visit) (past : List Item) (c : CallNo) → m.call ≡ c → (((same_call c call && (m.user == u)) || called call u (callbacks past)) ≡ true)
      → (called call u (callbacks past) ≡ true → meets u (visits job call past) ≡ true)
      → meets u (cond (same_call m.call call) (m ∷ visits job call past) (visits job call past)) ≡ true
  called_now m past c own e more = subst (λ x. meets u (cond (same_call x call) (m ∷ visits job call past) (visits job call past)) ≡ true) (sym own)
      (by_same (same_call c call) e)
    where
      by_same : (t : Bool) → ((t && (m.user == u)) || called call u (callbacks past)) ≡ true
          → meets u (cond t (m ∷ visits job call past) (visits job call past)) ≡ true
      by_same true x = elim (or-true_either (m.user == u) (called call u (callbacks past)) x)
          [ inl y ↦ rw y refl | inr y ↦ rw (more y) (or-true (m.user == u)) ]
      by_same false x = more x

  meets_more : (m : Visit) (past : List Item) → meets u (visits job call past) ≡ true
      → meets u (cond (same_call m.call call) (m ∷ visits job call past) (visits job call past)) ≡ true
  meets_more m past e = by_same (same_call m.call call)
    where
      by_same : (t : Bool) → meets u (cond t (m ∷ visits job call past) (visits job call past)) ≡ true
      by_same true = rw e (or-true (m.user == u))
      by_same false = e

  exit_other : (c : CallNo) (v p : ℕ) (past : List Item) → cond (same_call c call) (p ∷ exits call past) (exits call past) ≡ []
      → ((same_call c call && (v == u)) || called call u (callbacks past)) ≡ true
      → (exits call past ≡ []) × (called call u (callbacks past) ≡ true)
  exit_other c v p past none e = by_same (same_call c call) none e
    where
      by_same : (t : Bool) → cond t (p ∷ exits call past) (exits call past) ≡ [] → ((t && (v == u)) || called call u (callbacks past)) ≡ true
          → (exits call past ≡ []) × (called call u (callbacks past) ≡ true)
      by_same true x y = absurd (cc)
      by_same false x y = (x, y)

  pub called_visited : (past : List Item) → exits call past ≡ [] → called call u (callbacks past) ≡ true → meets u (visits job call past) ≡ true
  unfolding all_visits
  called_visited [] none e = false_true e
  called_visited (Back c v ∷ past) none e = called_now (visit job c v.0 past (all_visits job past) true) past c refl e (called_visited past none)
  called_visited (Refuse c v reason ∷ past) none e = meets_more (visit job c v.0 past (all_visits job past) false) past (called_visited past none e)
  called_visited (BackEnd c v ∷ past) none e = called_visited past none (called_less call c u v.0 (callbacks past) e)
  called_visited (ExitEnd c v ∷ past) none e = called_visited past none (called_less call c u v.0 (callbacks past) e)
  called_visited (Exit c v p ∷ past) none e = let x = exit_other c v.0 p past none e in called_visited past x.0 x.1
  called_visited (_ ∷ past) none e = called_visited past none e

pub each_any : (P : Visit → Type 0) (u : ℕ) (ms : List Visit) → Each P ms → meets u ms ≡ true → (m : Visit) × P m × (m.user ≡ u)
each_any P u [] all e = false_true e
each_any P u (m ∷ ms) all e = elim (or-true_either (m.user == u) (meets u ms) e) [ inl x ↦ (m, all.0, eqb-true m.user u x) | inr x ↦ each_any P u ms all.1 x ]

abbrev pub of_user : ℕ → List Callback → Bool
of_user u bs = list_any (λ b. b.user == u) bs

called_filter : (call : CallNo) (v t : ℕ) (bs : List Callback) → called call v (of_task t bs) ≡ true → called call v bs ≡ true
called_filter call v t [] e = e
called_filter call v t (b ∷ bs) e = by_task (b.call.task.0 == t) e (λ x. called_filter call v t bs x)
  where
    by_task : (x : Bool) → called call v (cond x (b ∷ of_task t bs) (of_task t bs)) ≡ true → (called call v (of_task t bs) ≡ true → called call v bs ≡ true)
        → ((same_call b.call call && (b.user == v)) || called call v bs) ≡ true
    by_task true y more = elim (or-true_either (same_call b.call call && (b.user == v)) (called call v (of_task t bs)) y)
        [ inl z ↦ rw z refl | inr z ↦ rw (more z) (or-true (same_call b.call call && (b.user == v))) ]
    by_task false y more = rw (more y) (or-true (same_call b.call call && (b.user == v)))

pub there_of : (past : List Item) (t : ℕ) (bs : List Callback) → of_task t (callbacks past) ≡ bs → (c : CallNo) (v : ℕ) → called c v bs ≡ true
    → called c v (callbacks past) ≡ true
there_of past t bs is c v e = called_filter c v t (callbacks past) (subst (λ (x : List Callback). called c v x ≡ true) (sym is) e)

-- what no task has, nobody has
pub by_task : (u : ℕ) (bs : List Callback) → ((t : ℕ) → of_user u (of_task t bs) ≡ false) → of_user u bs ≡ false
by_task u [] none = refl
by_task u (b ∷ bs) none =
    let here : (b.user == u) ≡ false = own (none b.call.task.0) in
    let rest : of_user u bs ≡ false = by_task u bs (λ t. less t (b.call.task.0 == t) (none t)) in
    rw (here, rest) refl
  where
    own : of_user u (cond (b.call.task.0 == b.call.task.0) (b ∷ of_task b.call.task.0 bs) (of_task b.call.task.0 bs)) ≡ false → (b.user == u) ≡ false
    own e = let s : (b.call.task.0 == b.call.task.0) ≡ true = ==-refl b.call.task.0 in
        (or-false_both (b.user == u) (of_user u (of_task b.call.task.0 bs))
        (subst (λ (x : Bool). of_user u (cond x (b ∷ of_task b.call.task.0 bs) (of_task b.call.task.0 bs)) ≡ false) s e)).0

    less : (t : ℕ) (x : Bool) → of_user u (cond x (b ∷ of_task t bs) (of_task t bs)) ≡ false → of_user u (of_task t bs) ≡ false
    less t true e = (or-false_both (b.user == u) (of_user u (of_task t bs)) e).1
    less t false e = e

-- a task that has nothing to do
abbrev no_run : PlainTask
no_run = record { next = 1; acts = []; gone = 0; contexts = []; stack = [] }

some-none : {A : Type 0} (x : A) (xs : List A) → x ∷ xs ≡ [] → ⊥
some-none x xs e = absurd cc

-- it makes no step
no-step : (job : Job) (d t : ℕ) (p s : PlainTask) (item : Item) → is_of t item ≡ true → Step job d p s item → p ≡ no_run → ⊥
no-step job d t p s item own step_begin is = false_true own
no-step job d t p s item own step_return is = false_true own
no-step job d t p s item own (step_enter {f = f} {rest = rest} it quiet acts x) is = some-none (Call f) rest (sym (subst (λ (q : PlainTask). (acts_ahead d q).acts ≡ Call f ∷ rest) is acts))
no-step job d t p s item own _ is = some-none _ _ (ap (λ (q : PlainTask). q.stack) is)

module _ (job : Job) (t : ℕ) (out : length job.tasks ≤ t) where
  start_none : at_start job t ≡ no_run
  start_none = ap (λ (x : Task). (let y : PlainTask = record { next = 1; acts = x.acts; gone = 0; contexts = []; stack = [] } in y))
      (beyond job.tasks t no_task out)

  pub stranger : (past : List Item) (s : PlainTask) → plain job t past ≡ Some s → (s ≡ no_run) × (of_task t (callbacks past) ≡ [])
  stranger = run-holds job t (λ past s. (s ≡ no_run) × (of_task t (callbacks past) ≡ [])) (start_none, refl)
      (λ item past p s own here k h. absurd (no-step job (done past) t p s item own k h.0))
      (λ item past s other here h. (h.0, (carries_item job t item past other).opens ∙ h.1))

  -- no item is of it
  pub no-item : (item : Item) (past : List Item) (s : PlainTask) → is_of t item ≡ true → plain job t (item ∷ past) ≡ Some s → ⊥
  no-item item past s own e = let w = own-step job t item past s own e in no-step job (done past) t w.0 s item own w.2 (stranger past w.0 w.1).0

  pub stranger_none : (past : List Item) (u : ℕ) → IsSome (plain job t past) → of_user u (of_task t (callbacks past)) ≡ false
  stranger_none past u h = by (plain job t past) refl h
    where
      by : (o : Option PlainTask) → plain job t past ≡ o → IsSome o → of_user u (of_task t (callbacks past)) ≡ false
      by None e h = false_true h
      by (Some s) e h = subst (λ (bs : List Callback). of_user u bs ≡ false) (sym (stranger past s e).1) refl
