-- The steps of a task's plain run: what each item makes of the task. A property that each step keeps holds along the run.
use Rattle.std.proofs.Common.{cond, ◌≡◌, ℕ, suc, Bool, true, false, ◌==◌, List, [], ◌∷◌, Option, Some, None, refl, sym, ap, ◌∙◌, subst, eqb-true}
use Rattle.ft_base.specs.declared.number.CallNo.{CallNo}
use Rattle.ft_base.specs.declared.number.FuncNo.{FuncNo}
use Rattle.ft_base.specs.declared.number.UserNo.{UserNo}
use Rattle.ft_base.specs.declared.context.Ctx.{Ctx}
use Rattle.ft_base.specs.declared.item.Item.{Item}
use Rattle.ft_base.specs.declared.item.Item.TheVariants.{Begin, Return, Enter, Back, BackEnd, Refuse, Miss, Body, Leave, Exit, ExitEnd, Ret}
use Rattle.ft_base.specs.declared.item.Ran.{Ran}
use Rattle.ft_base.specs.declared.item.Reason.{Reason}
use Rattle.ft_base.specs.declared.item.Answer.{Answer}
use Rattle.ft_base.specs.declared.task.TaskAct.{TaskAct}
use Rattle.ft_base.specs.declared.task.TaskAct.TheVariants.{Call, Ret as RetAct}
use Rattle.ft_base.specs.Same.{same_call, same_ctx, context}
use Rattle.ft_base.specs.Job.{Job}
use Rattle.ft_base.specs.Desk.{spec_at}
use Rattle.ft_base.proofs.Same.{same_ctx-eq}
use Rattle.ft_base.proofs.Small.{false_true, and_both}
use Rattle.ft_hist.specs.Past.{is_of, done}
use Rattle.ft_hist.specs.Plain.{plain, after_item, after_next, at_start, PlainTask, Frame, Phase, Owed, Dispatch, InBack, Running, Leaving, InExit, Ahead, on_top, in_phase, after_back, after_back_end, after_miss, after_refusal, after_body, after_leave, after_scripted_leave, after_exit, after_exit_end, after_ret, after_enter, after_owed_enter, after_scripted_enter, ahead, owed_by, same_top, top_call}

pub if_some : {A : Type 0} (b : Bool) (o : Option A) (y : A) → cond b o None ≡ Some y → (b ≡ true) × (o ≡ Some y)
if_some true o y e = (refl, e)
if_some false o y e = absurd cc

pub some_inj : {A : Type 0} (x y : A) → Some x ≡ Some y → x ≡ y
some_inj x y e = cc

abbrev call_with : ℕ → ℕ → CallNo
call_with t n = record { task = record { 0 = t }; n = n }

pub same_call-eq : (a b : CallNo) → same_call a b ≡ true → a ≡ b
same_call-eq a b e =
    let both = and_both (a.task.0 == b.task.0) (a.n == b.n) e in
    let t : a.task.0 ≡ b.task.0 = eqb-true a.task.0 b.task.0 both.0 in
    let n : a.n ≡ b.n = eqb-true a.n b.n both.1 in
    ap (λ (x : ℕ). call_with x a.n) t ∙ ap (λ (y : ℕ). call_with b.task.0 y) n

pub same_top-eq : (a b : Option CallNo) → same_top a b ≡ true → a ≡ b
same_top-eq None None e = refl
same_top-eq (Some a) (Some b) e = ap (λ (c : CallNo). Some c) (same_call-eq a b e)
same_top-eq None (Some b) e = false_true e
same_top-eq (Some a) None e = false_true e

-- ## steps

-- a call that was just entered
abbrev pub new_frame : CallNo → Ctx → ℕ → Bool → Frame
new_frame call x f scripted = record { call = call; ctx = x; func = f; scripted = scripted; phase = Dispatch }

-- a call in its body, by the script or not
abbrev pub in_body : Bool → Frame → Frame
in_body scripted f = record f { scripted = scripted; phase = Running }

-- the same call in its return
abbrev pub in_return : Bool → Frame → Frame
in_return scripted f = record f { scripted = scripted; phase = Leaving }

-- the acts ahead of a task after this many returned commands
abbrev pub acts_ahead : ℕ → PlainTask → Ahead
acts_ahead d p = ahead d p.acts p.contexts p.gone

-- the task after the first of these
abbrev pub past_act : ℕ → PlainTask → List TaskAct → PlainTask
past_act d p rest = record { next = p.next; acts = rest; gone = suc (acts_ahead d p).gone; contexts = (acts_ahead d p).contexts; stack = p.stack }

-- the next act may begin over this stack: it is empty, or its top call is a scripted one in its body
abbrev pub IsQuiet : List Frame → Type 0
IsQuiet [] = Unit {0}
IsQuiet (f ∷ below) = (f.scripted ≡ true) × (f.phase ≡ Running)

-- what an Enter of a task tells: the number of its next call, and the call that is on the top
pub record IsNext (p : PlainTask) (call : CallNo) (caller : Option CallNo) : Type 0 where
  pub number : call.n ≡ p.next
  pub from : caller ≡ top_call p.stack

-- the task goes from one state to another by an item of it: its top call goes to another phase, the script or an act enters a call, or
-- it returns. Here p is the task but for its stack, and f the top call but for its phase
pub data Step (job : Job) (d : ℕ) : PlainTask → PlainTask → Item → Type 0 where
  step_begin : {p : PlainTask} {k : ℕ} → Step job d p p (Begin k)
  step_return : {p : PlainTask} {k : ℕ} {a : Answer} → Step job d p p (Return k a)
  step_enter : {p : PlainTask} {call : CallNo} {x : Ctx} {f : FuncNo} {caller : Option CallNo} {rest : List TaskAct} → IsNext p call caller → IsQuiet p.stack
      → (acts_ahead d p).acts ≡ Call f ∷ rest → context (acts_ahead d p).contexts ≡ x
      → Step job d p (record (past_act d p rest) { next = suc p.next; stack = new_frame call x f.0 true ∷ p.stack }) (Enter call x f caller)
  step_act : (p : PlainTask) (g : Frame) (below : List Frame) {u : ℕ} {fresh : Bool} {call : CallNo} {x : Ctx} {f : FuncNo} {caller : Option CallNo}
      → IsNext (on_top p g below) call caller
      → Step job d (on_top p (in_phase g (InBack u (Some (record { ctx = x; func = f.0 })) fresh)) below)
      (record p { next = suc p.next; stack = new_frame call x f.0 false ∷ in_phase g (InBack u None false) ∷ below }) (Enter call x f caller)
  step_back : (p : PlainTask) (f : Frame) (below : List Frame) {u : UserNo}
      → Step job d (on_top p (in_phase f Dispatch) below) (on_top p (in_phase f (InBack u.0 (owed_by f.ctx (spec_at job u.0).act) true)) below) (Back f.call u)
  step_back_end : (p : PlainTask) (f : Frame) (below : List Frame) {u : UserNo} {fresh : Bool}
      → Step job d (on_top p (in_phase f (InBack u.0 None fresh)) below) (on_top p (in_phase f Dispatch) below) (BackEnd f.call u)
  step_refuse : (p : PlainTask) (f : Frame) (below : List Frame) {u : UserNo} {reason : Reason}
      → Step job d (on_top p (in_phase f Dispatch) below) (on_top p (in_phase f Dispatch) below) (Refuse f.call u reason)
  step_miss : (p : PlainTask) (f : Frame) (below : List Frame) {u : UserNo} {owed : Option Owed}
      → Step job d (on_top p (in_phase f (InBack u.0 owed true)) below) (on_top p (in_phase f (InBack u.0 owed false)) below) (Miss f.call u)
  step_body : (p : PlainTask) (f : Frame) (below : List Frame) {g : FuncNo} {ran : Ran}
      → Step job d (on_top p (in_phase f Dispatch) below) (on_top p (in_phase f Running) below) (Body f.call g ran)
  step_leave : (p : PlainTask) (f : Frame) (below : List Frame) {rest : List TaskAct} → (acts_ahead d p).acts ≡ RetAct ∷ rest
      → Step job d (on_top p (in_body true f) below) (on_top (past_act d p rest) (in_return true f) below) (Leave f.call)
  step_act_leave : (p : PlainTask) (f : Frame) (below : List Frame) → Step job d (on_top p (in_body false f) below) (on_top p (in_return false f) below) (Leave f.call)
  step_exit : (p : PlainTask) (f : Frame) (below : List Frame) {u : UserNo} {entry : ℕ}
      → Step job d (on_top p (in_phase f Leaving) below) (on_top p (in_phase f (InExit u.0)) below) (Exit f.call u entry)
  step_exit_end : (p : PlainTask) (f : Frame) (below : List Frame) {u : UserNo}
      → Step job d (on_top p (in_phase f (InExit u.0)) below) (on_top p (in_phase f Leaving) below) (ExitEnd f.call u)
  step_ret : (p : PlainTask) (f : Frame) (below : List Frame) → Step job d (on_top p (in_phase f Leaving) below) (record p { stack = below }) (Ret f.call (top_call below))

module _ (job : Job) (d : ℕ) (p s : PlainTask) where
  -- a step to the state that an item makes
  to : (q : PlainTask) (item : Item) → Step job d p q item → Some q ≡ Some s → Step job d p s item
  to q item k e = subst (λ (y : PlainTask). Step job d p y item) (some_inj q s e) k

module _ (job : Job) (d : ℕ) (p s : PlainTask) where
  -- ## an item of the top call

  module _ (f : Frame) (below : List Frame) where
    abbrev on : Phase → PlainTask
    on ph = on_top p (in_phase f ph) below

    user-is : (u v : ℕ) (from : ℕ → Phase) (item : Item) → (u == v) ≡ true → Step job d (on (from u)) s item → Step job d (on (from v)) s item
    user-is u v from item e k = subst (λ (n : ℕ). Step job d (on (from n)) s item) (eqb-true u v e) k

    of-back : (u : UserNo) (ph : Phase) → after_back job (on ph) (in_phase f ph) below u.0 ph ≡ Some s → Step job d (on ph) s (Back f.call u)
    of-back u Dispatch e = to job d _ s _ (Back f.call u) (step_back p f below) e
    of-back u _ e = absurd cc

    of-back-end : (u : UserNo) (ph : Phase) → after_back_end (on ph) (in_phase f ph) below u.0 ph ≡ Some s → Step job d (on ph) s (BackEnd f.call u)
    of-back-end u (InBack v None fresh) e =
        let w = if_some (u.0 == v) _ s e in
        user-is u.0 v (λ n. InBack n None fresh) (BackEnd f.call u) w.0 (to job d _ s _ (BackEnd f.call u) (step_back_end p f below) w.1)
    of-back-end u _ e = absurd cc

    of-refusal : (u : UserNo) (reason : Reason) (ph : Phase) → after_refusal (on ph) ph ≡ Some s → Step job d (on ph) s (Refuse f.call u reason)
    of-refusal u reason Dispatch e = to job d _ s _ (Refuse f.call u reason) (step_refuse p f below) e
    of-refusal u reason _ e = absurd cc

    of-miss : (u : UserNo) (ph : Phase) → after_miss (on ph) (in_phase f ph) below u.0 ph ≡ Some s → Step job d (on ph) s (Miss f.call u)
    of-miss u (InBack v owed true) e =
        let w = if_some (u.0 == v) _ s e in
        subst (λ (n : ℕ). Some (on (InBack n owed false)) ≡ Some s → Step job d (on (InBack n owed true)) s (Miss f.call u)) (eqb-true u.0 v w.0)
        (λ x. to job d _ s _ (Miss f.call u) (step_miss p f below) x) w.1
    of-miss u _ e = absurd cc

    of-body : (g : FuncNo) (ran : Ran) (ph : Phase) → after_body (on ph) (in_phase f ph) below ph ≡ Some s → Step job d (on ph) s (Body f.call g ran)
    of-body g ran Dispatch e = to job d _ s _ (Body f.call g ran) (step_body p f below) e
    of-body g ran _ e = absurd cc

    of-script-leave : (acts : List TaskAct) → (acts_ahead d p).acts ≡ acts
        → after_scripted_leave (on_top p (in_body true f) below) (in_body true f) below acts (acts_ahead d p).contexts (acts_ahead d p).gone ≡ Some s
        → Step job d (on_top p (in_body true f) below) s (Leave f.call)
    of-script-leave (RetAct ∷ rest) is e = to job d _ s _ (Leave f.call) (step_leave p f below is) e
    of-script-leave _ is e = absurd cc

    of-leave : (scripted : Bool) (ph : Phase)
        → after_leave d (on_top p (record f { scripted = scripted; phase = ph }) below) (record f { scripted = scripted; phase = ph }) below ph ≡ Some s
        → Step job d (on_top p (record f { scripted = scripted; phase = ph }) below) s (Leave f.call)
    of-leave true Running e = of-script-leave (acts_ahead d p).acts refl e
    of-leave false Running e = to job d _ s _ (Leave f.call) (step_act_leave p f below) e
    of-leave _ _ e = absurd cc

    of-exit : (u : UserNo) (entry : ℕ) (ph : Phase) → after_exit (on ph) (in_phase f ph) below u.0 ph ≡ Some s → Step job d (on ph) s (Exit f.call u entry)
    of-exit u entry Leaving e = to job d _ s _ (Exit f.call u entry) (step_exit p f below) e
    of-exit u entry _ e = absurd cc

    of-exit-end : (u : UserNo) (ph : Phase) → after_exit_end (on ph) (in_phase f ph) below u.0 ph ≡ Some s → Step job d (on ph) s (ExitEnd f.call u)
    of-exit-end u (InExit v) e =
        let w = if_some (u.0 == v) _ s e in
        user-is u.0 v (λ n. InExit n) (ExitEnd f.call u) w.0 (to job d _ s _ (ExitEnd f.call u) (step_exit_end p f below) w.1)
    of-exit-end u _ e = absurd cc

    of-ret : (c : Option CallNo) (ph : Phase) → after_ret (on ph) below c ph ≡ Some s → Step job d (on ph) s (Ret f.call c)
    of-ret c Leaving e =
        let w = if_some (same_top c (top_call below)) _ s e in
        subst (λ (o : Option CallNo). Step job d (on Leaving) s (Ret f.call o)) (sym (same_top-eq c (top_call below) w.0)) (to job d _ s _ (Ret f.call (top_call below)) (step_ret p f below) w.1)
    of-ret c _ e = absurd cc

  -- an item names the top call
  named : (f : Frame) (below : List Frame) (call : CallNo) (item : CallNo → Item) → same_call f.call call ≡ true → Step job d (on_top p f below) s (item f.call) → Step job d (on_top p f below) s (item call)
  named f below call item same k = subst (λ (c : CallNo). Step job d (on_top p f below) s (item c)) (same_call-eq f.call call same) k

  -- ## an Enter

  module _ (call : CallNo) (x : Ctx) (f : FuncNo) (caller : Option CallNo) where
    func-is : (g : FuncNo) → (g.0 == f.0) ≡ true → g ≡ f
    func-is g e = ap (λ (m : ℕ). number m) (eqb-true g.0 f.0 e)
      where
        number : ℕ → FuncNo
        number m = record { 0 = m }

    of-script : (stack : List Frame) (acts : List TaskAct) → IsNext (record p { stack = stack }) call caller → IsQuiet stack → (acts_ahead d p).acts ≡ acts
        → after_scripted_enter (record p { stack = stack }) acts (acts_ahead d p).contexts (acts_ahead d p).gone call x f.0 ≡ Some s
        → Step job d (record p { stack = stack }) s (Enter call x f caller)
    of-script stack (Call g ∷ rest) it quiet is e =
        let w = if_some _ _ s e in
        let both = and_both (g.0 == f.0) (same_ctx x (context (acts_ahead d p).contexts)) w.0 in
        to job d (record p { stack = stack }) s _ (Enter call x f caller)
        (step_enter it quiet (is ∙ ap (λ (h : FuncNo). Call h ∷ rest) (func-is g both.0)) (sym (same_ctx-eq x (context (acts_ahead d p).contexts) both.1))) w.1
    of-script stack _ it quiet is e = absurd cc

    of-act : (g : Frame) (below : List Frame) (u : ℕ) (owed : Option Owed) (fresh : Bool) → IsNext (on_top p g below) call caller
        → after_owed_enter (on_top p (in_phase g (InBack u owed fresh)) below) (in_phase g (InBack u owed fresh)) below u owed call x f.0 ≡ Some s
        → Step job d (on_top p (in_phase g (InBack u owed fresh)) below) s (Enter call x f caller)
    of-act g below u None fresh it e = absurd cc
    of-act g below u (Some o) fresh it e =
        let w = if_some _ _ s e in
        let both = and_both (o.func == f.0) (same_ctx o.ctx x) w.0 in
        subst (λ (m : Owed). Step job d (on_top p (in_phase g (InBack u (Some m) fresh)) below) s (Enter call x f caller))
        (sym (ap (λ (y : Ctx). owes y o.func) (same_ctx-eq o.ctx x both.1) ∙ ap (λ (n : ℕ). owes x n) (eqb-true o.func f.0 both.0)))
        (to job d _ s _ (Enter call x f caller) (step_act p g below it) w.1)
      where
        owes : Ctx → ℕ → Owed
        owes y n = record { ctx = y; func = n }

    of-enter : (stack : List Frame) → IsNext (record p { stack = stack }) call caller → after_enter d (record p { stack = stack }) stack call x f.0 ≡ Some s
        → Step job d (record p { stack = stack }) s (Enter call x f caller)
    of-enter [] it e = of-script [] (acts_ahead d p).acts it tt refl e
    of-enter (g ∷ below) it e = by g.phase refl e
      where
        by : (ph : Phase) → g.phase ≡ ph → after_enter d (on_top p g below) (in_phase g ph ∷ below) call x f.0 ≡ Some s → Step job d (on_top p g below) s (Enter call x f caller)
        by Running q y = let w = if_some g.scripted _ s y in of-script (g ∷ below) (acts_ahead d p).acts it (w.0, q) refl w.1
        by (InBack u owed fresh) q y =
            subst (λ (ph : Phase). after_owed_enter (on_top p (in_phase g ph) below) g below u owed call x f.0 ≡ Some s → Step job d (on_top p (in_phase g ph) below) s (Enter call x f caller)) (sym q)
            (λ z. of-act g below u owed fresh it z) y
        by _ q y = absurd cc

  step-over : (stack : List Frame) (item : Item) → after_item job d (record p { stack = stack }) item ≡ Some s → Step job d (record p { stack = stack }) s item
  unfolding after_item
  step-over stack (Begin k) e = to job d (record p { stack = stack }) s _ (Begin k) step_begin e
  step-over stack (Return k a) e = to job d (record p { stack = stack }) s _ (Return k a) step_return e
  step-over stack (Enter call x f caller) e =
      let w = if_some _ _ s e in
      let both = and_both (call.n == p.next) (same_top caller (top_call stack)) w.0 in
      of-enter call x f caller stack (record { number = eqb-true call.n p.next both.0; from = same_top-eq caller (top_call stack) both.1 }) w.1
  step-over [] _ e = absurd cc
  step-over (f ∷ below) (Back call u) e = let w = if_some _ _ s e in named f below call (λ c. Back c u) w.0 (of-back f below u f.phase w.1)
  step-over (f ∷ below) (BackEnd call u) e = let w = if_some _ _ s e in named f below call (λ c. BackEnd c u) w.0 (of-back-end f below u f.phase w.1)
  step-over (f ∷ below) (Refuse call u reason) e = let w = if_some _ _ s e in named f below call (λ c. Refuse c u reason) w.0 (of-refusal f below u reason f.phase w.1)
  step-over (f ∷ below) (Miss call u) e = let w = if_some _ _ s e in named f below call (λ c. Miss c u) w.0 (of-miss f below u f.phase w.1)
  step-over (f ∷ below) (Body call g ran) e = let w = if_some _ _ s e in named f below call (λ c. Body c g ran) w.0 (of-body f below g ran f.phase w.1)
  step-over (f ∷ below) (Leave call) e = let w = if_some _ _ s e in named f below call (λ c. Leave c) w.0 (of-leave f below f.scripted f.phase w.1)
  step-over (f ∷ below) (Exit call u entry) e = let w = if_some _ _ s e in named f below call (λ c. Exit c u entry) w.0 (of-exit f below u entry f.phase w.1)
  step-over (f ∷ below) (ExitEnd call u) e = let w = if_some _ _ s e in named f below call (λ c. ExitEnd c u) w.0 (of-exit-end f below u f.phase w.1)
  step-over (f ∷ below) (Ret call c) e = let w = if_some _ _ s e in named f below call (λ k. Ret k c) w.0 (of-ret f below c f.phase w.1)

  -- what an item makes of a task is a step
  pub step : (item : Item) → after_item job d p item ≡ Some s → Step job d p s item
  step item e = step-over p.stack item e

-- ## along a plain run

module _ (job : Job) (t : ℕ) where
  -- an item of the task makes a step, from where its run was
  pub own-step : (item : Item) (past : List Item) (s : PlainTask) → is_of t item ≡ true → plain job t (item ∷ past) ≡ Some s
      → (p : PlainTask) × (plain job t past ≡ Some p) × Step job (done past) p s item
  unfolding plain
  own-step item past s own e = by (plain job t past) refl (rw own at e)
    where
      by : (o : Option PlainTask) → plain job t past ≡ o → after_next job (done past) item o ≡ Some s → (p : PlainTask) × (plain job t past ≡ Some p) × Step job (done past) p s item
      by None here x = absurd cc
      by (Some p) here x = (p, here, step job (done past) p s item x)

  -- another's leaves it there
  pub unmoved : (item : Item) (past : List Item) (s : PlainTask) → is_of t item ≡ false → plain job t (item ∷ past) ≡ Some s → plain job t past ≡ Some s
  unfolding plain
  unmoved item past s other e = rw other at e

  -- what holds at the start, and is kept by each step of the task and by the items of others, holds along its run
  pub run-holds : (P : List Item → PlainTask → Type 0) → P [] (at_start job t)
      → ((item : Item) (past : List Item) (p s : PlainTask) → is_of t item ≡ true → plain job t past ≡ Some p → Step job (done past) p s item → P past p → P (item ∷ past) s)
      → ((item : Item) (past : List Item) (s : PlainTask) → is_of t item ≡ false → plain job t past ≡ Some s → P past s → P (item ∷ past) s)
      → (past : List Item) (s : PlainTask) → plain job t past ≡ Some s → P past s
  unfolding plain
  run-holds P start own other [] s e = subst (λ (x : PlainTask). P [] x) (some_inj (at_start job t) s e) start
  run-holds P start own other (item ∷ past) s e = by (is_of t item) refl (run-holds P start own other past)
    where
      by : (b : Bool) → is_of t item ≡ b → ((p : PlainTask) → plain job t past ≡ Some p → P past p) → P (item ∷ past) s
      by true is before = let w = own-step item past s is e in own item past w.0 s is w.1 w.2 (before w.0 w.1)
      by false is before = let here = unmoved item past s is e in other item past s is here (before s here)
