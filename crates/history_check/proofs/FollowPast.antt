-- All that is kept, after one more item.
use Rattle.std.proofs.Common.{cond, ◌≡◌, ℕ, zero, suc, ◌+◌, ◌<◌, ◌≤◌, Bool, true, false, ◌&&◌, ◌==◌, List, [], ◌∷◌, length, Some, None, refl, sym, ap, ◌∙◌, subst, arith, inl, inr, length-set, set}
use Rattle.std.specs.Prelude.{Option, option_map, slice_get}
use Rattle.std.specs.List.{AllByRecursion as Each}
use Rattle.std.proofs.lemmas.Bool.{cases_lt, ne_eqb}
use Rattle.ft_base.specs.declared.number.CallNo.{CallNo}
use Rattle.ft_base.specs.declared.number.UserNo.{UserNo}
use Rattle.ft_base.specs.declared.item.Reason.{Reason}
use Rattle.ft_base.specs.declared.item.Item.{Item}
use Rattle.ft_base.specs.declared.item.Item.TheVariants.{Begin, Back, Refuse}
use Rattle.ft_base.specs.Items.{call_of, is_task}
use Rattle.ft_base.specs.Desk.{desk, is_on, spec_at, user_at}
use Rattle.ft_base.specs.Kinds.{has_exit}
use Rattle.ft_base.specs.Job.{Ctl as PlainCtl, Job, Run as PlainRun, Until as PlainUntil}
use Rattle.ft_desk.specs.declared.command.Command.{Command}
use Rattle.ft_desk.specs.declared.command.Ctl.{Ctl}
use Rattle.ft_desk.specs.declared.command.Ctl.TheVariants.{Run, Until}
use Rattle.ft_base.proofs.Small.{false_true, ==-refl}
use Rattle.ft_hist.specs.Past.{Callback, all_visits, begun, callbacks, done, gets_frame, held, is_of, miss_due, registration_at, visit, visits}
use Rattle.ft_hist.specs.Past as told
use Rattle.ft_hist.specs.Known.{holds}
use Rattle.ft_hist.specs.Plain.{plain}
use Rattle.ft_hist.specs.Rules.{KeepsCommands, KeepsPlainRun}
use Rattle.ft_hist.proofs.Laws.{plain-other, same_call-refl, own-item}
use Rattle.ft_hist.proofs.RunLaws.{some_inj}
use Rattle.ft_hist.proofs.Since.{misses-other}
use Rattle.ft_hist.proofs.WindowLaws.{few-done, few-begun}
use Rattle.ft_desk.specs.Lines.{lines_of}
use Rattle.history_check.specs.declared.open_call.OpenCall.{OpenCall}
use Rattle.history_check.specs.declared.open_call.Visit.{Visit}
use Rattle.history_check.specs.declared.task_past.Due.{Due}
use Rattle.history_check.specs.declared.task_past.TaskPast.{TaskPast}
use Rattle.history_check.specs.declared.past.Past.{Past}
use Rattle.history_check.specs.CallbackList.{callbacks_of}
use Rattle.history_check.specs.TaskCalls.{AreCallsOf, AreStacked, AreTasksOf, HasRoom, IsContextOf, IsDueBy, IsOfJob, IsTaskPast, IsTop, IsVisitBy, due_of, visit_of}
use Rattle.history_check.specs.JudgePast.{IsMet, IsPast, IsPastAt, IsTopOf, is_enter, lines_after, waits_passed}
use Rattle.history_check.proofs.FollowRuns.{all-met, of-job}
use Rattle.history_check.proofs.FollowTask.{not-enter, top-of}
use Rattle.history_check.proofs.OpenStacks.{after-other, few-calls, few-left, of-own}

-- ## a list with one value changed

pub set-each : {A : Type 0} (P : ℕ → A → Type 0) (xs : List A) (i : ℕ) (y : A) → ((k : ℕ) (z : A) → slice_get xs k ≡ Some z → (i ≡ k → ⊥) → P k z) → P i y
    → (k : ℕ) (z : A) → slice_get (set xs i y) k ≡ Some z → P k z
set-each P [] i y all here k z e = absurd cc
set-each P (x ∷ xs) zero y all here zero z e = subst (P 0) (some_inj y z e) here
set-each P (x ∷ xs) zero y all here (suc k) z e = all (suc k) z e (λ h. omega (arith, h))
set-each P (x ∷ xs) (suc i) y all here zero z e = all 0 z e (λ h. omega (arith, h))
set-each P (x ∷ xs) (suc i) y all here (suc k) z e =
    set-each (λ n. P (suc n)) xs i y (λ j w at ne. all (suc j) w at (λ h. ne (omega (arith, h)))) here k z e

-- ## a task

-- the calls of a task
pub calls-of-task : (job : Job) (past now : List Item) (t : ℕ) (x : TaskPast) → IsTaskPast job past now t x → AreCallsOf job past t x.calls.items
calls-of-task job past now t x k = record { stack = k.stack; calls = k.calls; stacked = k.stacked }

-- a task after one more item of it
pub task-after : (job : Job) (now : List Item) (t : ℕ) (x : TaskPast) → plain job t now ≡ Some x.run → AreCallsOf job now t x.calls.items → option_map due_of x.due ≡ miss_due job t now → IsTaskPast job now now t x
task-after job now t x run k due = record { run = run; stack = k.stack; calls = k.calls; stacked = k.stacked; due = due }

-- an item of another task, or of none, leaves a task as it was
pub task-still : (job : Job) (past : List Item) (item : Item) (t : ℕ) (x : TaskPast) → is_of t item ≡ false → IsTaskPast job past (item ∷ past) t x → IsTaskPast job (item ∷ past) (item ∷ past) t x
task-still job past item t x other k =
    task-after job (item ∷ past) t x k.run (after-other job past t x.calls.items (calls-of-task job past (item ∷ past) t x k) item other) (k.due ∙ sym (misses-other job t item past other))

-- the task of an item after it, and the others as they were
pub tasks-set : (job : Job) (past : List Item) (item : Item) (xs : List TaskPast) → AreTasksOf job past (item ∷ past) xs → (call : CallNo) → call_of item ≡ Some call → (x : TaskPast) → slice_get xs call.task.0 ≡ Some x
    → (new : TaskPast) → new.run ≡ x.run → IsDueBy job past item new.due → AreCallsOf job (item ∷ past) call.task.0 new.calls.items → AreTasksOf job (item ∷ past) (item ∷ past) (set xs call.task.0 new)
tasks-set job past item xs all call is x at new run due calls' = (
  length-set xs call.task.0 new ∙ all.0,
  set-each (IsTaskPast job (item ∷ past) (item ∷ past)) xs call.task.0 new
      (λ u y was ne. task-still job past item u y (of-own u item call is ∙ ne_eqb call.task.0 u ne) (all.1 u y was))
      (task-after job (item ∷ past) call.task.0 new ((all.1 call.task.0 x at).run ∙ ap (λ r. Some r) (sym run)) calls' (due call is)),
)

pub no-task-there : (job : Job) (past : List Item) (item : Item) (xs : List TaskPast) → AreTasksOf job past (item ∷ past) xs → IsOfJob job item → (call : CallNo) → call_of item ≡ Some call → length xs ≤ call.task.0 → ⊥
no-task-there job past item xs all within call is over =
    let lt = within call is in
    let size = all.0 in
    absurd (omega (arith, lt, size, over))

-- without an item of any task they all are as they were
pub tasks-still : (job : Job) (past : List Item) (item : Item) (xs : List TaskPast) → call_of item ≡ None → AreTasksOf job past (item ∷ past) xs → AreTasksOf job (item ∷ past) (item ∷ past) xs
tasks-still job past item xs none all = (all.0, λ t x at. task-still job past item t x (ap (is_task t) none) (all.1 t x at))

-- one more call can be counted over its top one
pub has-room : (job : Job) (past now : List Item) (t : ℕ) (x : TaskPast) → IsTaskPast job past now t x → length past + 2 < 4294967296 → HasRoom x
unfolding AreStacked
has-room job past now t x k few = λ c first. room x.calls.items (calls-of-task job past now t x k) c first
  where
    room : (cs : List OpenCall) → AreCallsOf job past t cs → (c : OpenCall) → slice_get cs 0 ≡ Some c → c.held + 1 < 4294967296
    room [] a c first = absurd cc
    room (d ∷ cs) a c first =
        let le = few-calls job past t (d ∷ cs) a in
        let held-is = a.stacked.0 in
        let part = few-left (λ (x : OpenCall). holds job past x.call) cs in
        let same : c.held ≡ d.held = ap (λ (x : OpenCall). x.held) (some_inj c d (sym first)) in
        omega (arith, le, held-is, part, same, few)

-- ## the top call

-- nothing is at a place past the end
pub get-none : {A : Type 0} (xs : List A) (i : ℕ) → slice_get xs i ≡ None → length xs ≤ i
get-none [] i e = omega arith
get-none (x ∷ xs) zero e = absurd cc
get-none (x ∷ xs) (suc i) e = let le = get-none xs i e in omega (arith, le)

module _ (job : Job) (past now : List Item) (p : Past) (k : IsPastAt job past now p) (item : Item) (goes : KeepsPlainRun job past item) where
  -- the task of an item is one of the job
  pub in-job : (call : CallNo) → call_of item ≡ Some call → call.task.0 < length job.tasks
  in-job call is = elim (cases_lt call.task.0 (length job.tasks)) [
    | inl lt ↦ lt
    | inr over ↦ false_true (sym (of-job job past item call.task.0 over (k.others call.task.0 over) (goes call.task.0)) ∙ own-item item call is)
  ]

  -- and it is there
  pub top-of-task : (call : CallNo) → call_of item ≡ Some call → (x : TaskPast) → slice_get p.tasks.items call.task.0 ≡ Some x → IsTopOf job past item (slice_get x.calls.items 0)
  top-of-task call is x at = λ c is'. (
    in-job c is',
    λ out.
        let same : c ≡ call = some_inj c call (sym is' ∙ is) in
        let w = top-of job past call.task.0 x.calls.items (calls-of-task job past now call.task.0 x (k.each call.task.0 x at)) item call is (own-item item call is) (goes call.task.0) out in (
          w.top,
          w.first,
          record {
            call' = w.call' ∙ sym same;
            task = in-job c is';
            is = w.is;
            held' = ap (λ (d : CallNo). held job d past) same ∙ w.held';
          },
        ),
  )

  -- there is no item of a task that isn't there
  pub no-task : (call : CallNo) → call_of item ≡ Some call → slice_get p.tasks.items call.task.0 ≡ None → ⊥
  no-task call is none =
      let le = get-none p.tasks.items call.task.0 none in
      let lt = in-job call is in
      let size = k.size in
      absurd (omega (arith, le, lt, size))

-- ## visits

-- what a callback and a refusal add to the visits of their call
back-visits : (job : Job) (past : List Item) (call : CallNo) (u : UserNo) → visits job call (Back call u ∷ past) ≡ visit job call u.0 past (all_visits job past) true ∷ visits job call past
unfolding all_visits
back-visits job past call u = rw (same_call-refl call) refl

refuse-visits : (job : Job) (past : List Item) (call : CallNo) (u : UserNo) (reason : Reason) → visits job call (Refuse call u reason ∷ past) ≡ visit job call u.0 past (all_visits job past) false ∷ visits job call past
unfolding all_visits
refuse-visits job past call u reason = rw (same_call-refl call) refl

-- the two are of the top call
module _ (job : Job) (past : List Item) (top call : CallNo) (same : top ≡ call) (u : UserNo) (m : Visit) where
  pub by-back : visit_of top m ≡ visit job top u.0 past (all_visits job past) true → IsVisitBy job past (Back call u) (Some m)
  by-back is = λ c e.
      let at : top ≡ c = same ∙ some_inj call c e in
      subst (λ (d : CallNo). visits job c (Back d u ∷ past) ≡ visit_of c m ∷ visits job c past) (sym (some_inj call c e))
      (back-visits job past c u ∙ ap (λ v. v ∷ visits job c past) (sym (subst (λ (d : CallNo). visit_of d m ≡ visit job d u.0 past (all_visits job past) true) at is)))

  pub by-refuse : (reason : Reason) → visit_of top m ≡ visit job top u.0 past (all_visits job past) false → IsVisitBy job past (Refuse call u reason) (Some m)
  by-refuse reason is = λ c e.
      let at : top ≡ c = same ∙ some_inj call c e in
      subst (λ (d : CallNo). visits job c (Refuse d u reason ∷ past) ≡ visit_of c m ∷ visits job c past) (sym (some_inj call c e))
      (refuse-visits job past c u reason ∙ ap (λ v. v ∷ visits job c past) (sym (subst (λ (d : CallNo). visit_of d m ≡ visit job d u.0 past (all_visits job past) false) at is)))

abbrev pub IsVisitAt : Job → List Item → OpenCall → UserNo → Visit → Bool → Type 0
IsVisitAt job past top u m back = IsTop job past top.call top → visit_of top.call m ≡ visit job top.call u.0 past (all_visits job past) back

-- the top call as the top one of itself
top-itself : (job : Job) (past : List Item) (item : Item) (top : OpenCall) → IsTopOf job past item (Some top) → (call : CallNo) → call_of item ≡ Some call → is_enter item ≡ false → (top.call ≡ call) × IsTop job past top.call top
top-itself job past item top is call e out =
    let w = (is call e).1 out in
    let same : w.0 ≡ top = some_inj w.0 top (sym w.1) in
    let k = subst (λ (x : OpenCall). IsTop job past call x) same w.2 in
    (k.call', subst (λ (d : CallNo). IsTop job past d top) (sym k.call') k)

pub visit-back : (job : Job) (past : List Item) (item : Item) (call : CallNo) (u : UserNo) → item ≡ Back call u → (top : OpenCall) → IsTopOf job past item (Some top) → (m : Visit) → IsVisitAt job past top u m true → IsVisitBy job past item (Some m)
visit-back job past item call u e top is m at =
    let k = top-itself job past (Back call u) top (subst (λ (i : Item). IsTopOf job past i (Some top)) e is) call refl refl in
    subst (λ (i : Item). IsVisitBy job past i (Some m)) (sym e) (by-back job past top.call call k.0 u m (at k.1))

pub visit-refuse : (job : Job) (past : List Item) (item : Item) (call : CallNo) (u : UserNo) (reason : Reason) → item ≡ Refuse call u reason → (top : OpenCall) → IsTopOf job past item (Some top) → (m : Visit) → IsVisitAt job past top u m false
    → IsVisitBy job past item (Some m)
visit-refuse job past item call u reason e top is m at =
    let k = top-itself job past (Refuse call u reason) top (subst (λ (i : Item). IsTopOf job past i (Some top)) e is) call refl refl in
    subst (λ (i : Item). IsVisitBy job past i (Some m)) (sym e) (by-refuse job past top.call call k.0 u m reason (at k.1))

-- an item that enters no call has a top call
pub no-top : (job : Job) (past : List Item) (item : Item) → IsTopOf job past item None → (call : CallNo) → call_of item ≡ Some call → is_enter item ≡ false → ⊥
no-top job past item is call e out = let w = (is call e).1 out in no-some w.0 w.1
  where
    no-some : (c : OpenCall) → None ≡ Some c → ⊥
    no-some c h = absurd cc

-- an item that is neither
abbrev pub is_visit : Item → Bool
is_visit (Back call u) = true
is_visit (Refuse call u reason) = true
is_visit _ = false

pub by-none : (job : Job) (past : List Item) (item : Item) → is_visit item ≡ false → IsVisitBy job past item None
unfolding all_visits
by-none job past (Back call u) e = false_true (sym e)
by-none job past (Refuse call u reason) e = false_true (sym e)
by-none job past _ e = λ c is. refl

pub not-visit : (item : Item) → ((call : CallNo) (u : UserNo) → item ≡ Back call u → ⊥) → ((call : CallNo) (u : UserNo) (reason : Reason) → item ≡ Refuse call u reason → ⊥) → is_visit item ≡ false
not-visit (Back call u) a b = absurd (a call u refl)
not-visit (Refuse call u reason) a b = absurd (b call u reason refl)
not-visit _ a b = refl

-- what is kept of a visit is what the items tell of it
module _ (job : Job) (past now : List Item) (p : Past) (k : IsPastAt job past now p) (c : OpenCall) (top : IsTop job past c.call c) (u : ℕ) where
  entry-func : (told.entry_of c.call past).func ≡ c.func.0
  entry-func = rw top.is.entered'.1 refl

  registered : (n : ℕ) → n ≡ cond (is_on (desk job p.done) u c.func.0) p.done p.begun → n ≡ registration_at job c.call u past
  registered n is = is ∙ (rw (k.done', k.begun', entry-func) refl)

  abbrev made : ℕ → ℕ → ℕ → Bool → Bool → told.Visit
  made reg since place back framed = record { call = c.call; user = u; reg = reg; since = since; place = place; back = back; framed = framed }

  made-same : (a b d e f g : ℕ) (x y z : Bool) → a ≡ b → d ≡ e → f ≡ g → x ≡ y → made a d f z x ≡ made b e g z y
  made-same a b d e f g x y z p' q r s = rw (p', q, r, s) refl

  pub visit-is : (n reg since : ℕ) (back framed : Bool) → n ≡ cond (is_on (desk job p.done) u c.func.0) p.done p.begun → reg ≡ (user_at (desk job n) u).reg → since ≡ (user_at (desk job n) u).since
      → framed ≡ (back && gets_frame job c.call u past (all_visits job past)) → made reg since p.place back framed ≡ visit job c.call u past (all_visits job past) back
  visit-is n reg since back framed is reg-is since-is framed-is =
      let at = registered n is in
      made-same reg (user_at (desk job (registration_at job c.call u past)) u).reg since (user_at (desk job (registration_at job c.call u past)) u).since p.place (length past)
      framed (back && gets_frame job c.call u past (all_visits job past)) back
      (reg-is ∙ ap (λ m. (user_at (desk job m) u).reg) at) (since-is ∙ ap (λ m. (user_at (desk job m) u).since) at) k.place framed-is

-- ## the miss that is due

module _ (job : Job) (past : List Item) (item : Item) (call : CallNo) (u : UserNo) (e : item ≡ Back call u) (top : OpenCall) (is : IsTopOf job past item (Some top)) where
  due-by : (due : Option Due) → option_map due_of due ≡ cond (has_exit (spec_at job u.0).kind && (top.held == job.frames)) (Some (record { call = call; user = u.0; ctx = None })) None → IsDueBy job past item due
  due-by due owed =
      let k = top-itself job past (Back call u) top (subst (λ (i : Item). IsTopOf job past i (Some top)) e is) call refl refl in
      let held-is : held job call past ≡ top.held = ap (λ (d : CallNo). held job d past) (sym k.0) ∙ k.1.held' in
      subst (λ (i : Item). IsDueBy job past i due) (sym e)
      (λ c of. subst (λ (d : CallNo). option_map due_of due ≡ miss_due job d.task.0 (Back call u ∷ past)) (some_inj call c of) (rw (==-refl call.task.0, held-is) owed))

  -- of a user with an exit, if the call found no frame left
  pub is-due : has_exit (spec_at job u.0).kind ≡ true → top.held ≡ job.frames → IsDueBy job past item (Some (record { call = call; user = u }))
  is-due exits full = due-by (Some (record { call = call; user = u })) (rw (exits, full, ==-refl job.frames) refl)

  pub none-due : (has_exit (spec_at job u.0).kind ≡ true → top.held ≡ job.frames → ⊥) → IsDueBy job past item None
  none-due not-both = due-by None (by (has_exit (spec_at job u.0).kind) refl)
    where
      by : (b : Bool) → has_exit (spec_at job u.0).kind ≡ b → ◌≡◌ {A = Option Callback} None (cond (b && (top.held == job.frames)) (Some (record { call = call; user = u.0; ctx = None })) None)
      by true exits = rw (ne_eqb top.held job.frames (not-both exits)) refl
      by false exits = refl

-- ## the context

pub in-context : (job : Job) (past : List Item) (item : Item) (c : OpenCall) → IsTopOf job past item (Some c) → IsContextOf past item (Some c.ctx)
in-context job past item c top = λ call e inside.
    let w = (top call e).1 (not-enter item inside) in
    let same : w.0 ≡ c = some_inj w.0 c (sym w.1) in
    let k = subst (λ (x : OpenCall). IsTop job past call x) same w.2 in
    let entered' = subst (λ (d : CallNo). told.entered d past ≡ Some (record { ctx = c.ctx; func = c.func.0; caller = k.is.entered'.0; from = c.from })) k.call' k.is.entered'.1 in
    rw entered' refl

-- ## the lines of control

-- the next command's line, and those before it
pub after-run : (n : ℕ) (lines later : List Ctl) (line : Ctl) (x : Command) → lines ≡ line ∷ later → line ≡ Run x → lines_after 1 (lines_of n lines) ≡ lines_of n later
unfolding lines_after
after-run n lines later line x e is = ap (λ (ls : List Ctl). lines_after 1 (lines_of n ls)) (e ∙ ap (λ (l : Ctl). l ∷ later) is)

pub after-until : (n : ℕ) (lines later : List Ctl) (line : Ctl) → lines ≡ line ∷ later → ((x : Command) → line ≡ Run x → ⊥) → lines_after 1 (lines_of n lines) ≡ lines_after 1 (lines_of n later)
unfolding lines_after
after-until n lines later line e other = ap (λ (ls : List Ctl). lines_after 1 (lines_of n ls)) e ∙ by line other
  where
    by : (l : Ctl) → ((x : Command) → l ≡ Run x → ⊥) → lines_after 1 (lines_of n (l ∷ later)) ≡ lines_after 1 (lines_of n later)
    by (Run x) no-run = absurd (no-run x refl)
    by (Until t m) no-run = refl

pub after-none : (n : ℕ) (lines : List Ctl) → length lines ≡ 0 → lines_of n lines ≡ lines_after 1 (lines_of n lines)
unfolding lines_after
after-none n [] e = refl
after-none n (l ∷ lines) e = absurd (omega (arith, e))

pub lines-more : (k : ℕ) (ctls : List PlainCtl) → lines_after 1 (lines_after k ctls) ≡ lines_after (suc k) ctls
unfolding lines_after
lines-more zero ctls = refl
lines-more (suc k) [] = refl
lines-more (suc k) (PlainUntil t m ∷ ctls) = lines-more (suc k) ctls
lines-more (suc k) (PlainRun x ∷ ctls) = lines-more k ctls

pub waits-now : (job : Job) (past : List Item) (item : Item) → KeepsCommands job past item → Each (IsMet job past) (waits_passed (begun past) job.ctls) → Each (IsMet job past) (waits_passed (begun (item ∷ past)) job.ctls)
waits-now job past (Begin k) commands waited = commands.1
waits-now job past _ commands waited = waited

-- ## room

module _ (job : Job) (past now : List Item) (p : Past) (k : IsPastAt job past now p) (few : length past + 2 < 4294967296) (n : ℕ) where
  pub done-fits : n ≡ p.done → n + 1 < 4294967296
  done-fits e = let h = few-done past in let d = k.done' in omega (arith, h, d, e, few)

  pub begun-fits : n ≡ p.begun → n + 1 < 4294967296
  begun-fits e = let h = few-begun past in let b = k.begun' in omega (arith, h, b, e, few)

  pub place-fits : n ≡ p.place → n + 1 < 4294967296
  place-fits e = let h = k.place in omega (arith, h, e, few)

-- ## all

module _ (job : Job) (past : List Item) (item : Item) (old new : Past) (k : IsPastAt job past (item ∷ past) old) (run : KeepsPlainRun job past item) (commands : KeepsCommands job past item) where
  pub taken-in : new.desks ≡ old.desks → new.specs ≡ old.specs → new.frames ≡ old.frames → new.levels ≡ old.levels → AreTasksOf job (item ∷ past) (item ∷ past) new.tasks.items
      → callbacks_of new.callbacks ≡ callbacks (item ∷ past) → new.done ≡ done (item ∷ past) → new.begun ≡ begun (item ∷ past) → new.place ≡ old.place + 1
      → lines_of (length job.tasks) new.lines.now ≡ lines_after (begun (item ∷ past)) job.ctls → IsPast job (item ∷ past) new
  taken-in desks specs frames levels tasks back returned begins place lines = record {
    desks = rw desks k.desks;
    specs = rw specs k.specs;
    frames = frames ∙ k.frames;
    levels' = levels ∙ k.levels';
    lines = lines;
    waited = all-met job past item run (waits_passed (begun (item ∷ past)) job.ctls) (waits-now job past item commands k.waited);
    size = tasks.0;
    each = tasks.1;
    others = λ t over. plain-other job past item t (of-job job past item t over (k.others t over) (run t)) ∙ k.others t over;
    callbacks' = back;
    done' = returned;
    begun' = begins;
    place = (let e = k.place in omega (arith, e, place));
  }
