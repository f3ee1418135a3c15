-- What is told of a task's open calls and of its acts to come, and how it goes on within an act.
use Rattle.std.proofs.Common.{◌≡◌, ℕ, suc, ◌<◌, Bool, true, false, not, ◌||◌, List, ◌∷◌, length, refl, sym, ◌∙◌, subst}
use Rattle.std.specs.List.{AllByRecursion as Each}
use Rattle.ft_base.specs.declared.item.Ran.{Ran}
use Rattle.ft_base.specs.declared.number.FuncNo.{FuncNo}
use Rattle.ft_base.specs.declared.task.TaskAct.{TaskAct}
use Rattle.ft_base.specs.declared.task.TaskAct.TheVariants.{Call, Ret as RetAct, Raise, Lower, After}
use Rattle.ft_base.specs.Job.{Job}
use Rattle.ft_base.specs.WellFormed.{IsScript}
use Rattle.ft_base.specs.Acts.{AreRaised}
use Rattle.ft_base.specs.Tasks.{has_acts}
use Rattle.ft_base.proofs.Small.{false_true}
use Rattle.ft_hist.specs.Frames.{FrameUser}
use Rattle.ft_hist.specs.Dispatch.{is_full}
use Rattle.word_machine.specs.Task.{OpenCall, TaskState, Moment, Polling, First, Leaving, AtExit, Exiting, EndingExit, Returning, guards_under, is_quiet, with_top}
use Rattle.word_machine.specs.Tasks.{StandsIn, acts_by, is_returning, open_by}
use Rattle.word_machine_laws.proofs.PollWords.{first-loud}
use Rattle.task_core.specs.Framed.{AreFramed}
use Rattle.task_core.specs.TaskInvariant.{HasFound, TaskInvariant, CallInvariant, NamesThere, holds_guard, is_dispatching, returns_at_once}

-- ## moments

-- a moment of a dispatch is within an act, and before the Leave and the return
pub in-dispatch : (m : Moment) → is_dispatching m ≡ true → (is_quiet m ≡ false) × (is_returning m ≡ false) × (returns_at_once m ≡ false)
in-dispatch Polling e = false_true e
in-dispatch First e = false_true e
in-dispatch Leaving e = false_true e
in-dispatch (AtExit m rest) e = false_true e
in-dispatch (Exiting m rest) e = false_true e
in-dispatch (EndingExit m rest) e = false_true e
in-dispatch Returning e = false_true e
in-dispatch _ e = (refl, refl, refl)

-- what a moment asks of its call
pub record Asks (job : Job) (c : OpenCall) (below : List OpenCall) (m : Moment) : Type 0 where
  pub names : NamesThere job m
  pub acted : returns_at_once m ≡ true → c.scripted ≡ false
  pub free : holds_guard m ≡ true → is_full job (guards_under c.scripted below) c.ctx ≡ false
  pub found : HasFound job c below m

-- a moment of a return is within an act, after the dispatch, and asks for nothing
pub in-return : (job : Job) (c : OpenCall) (below : List OpenCall) (m : Moment) → is_returning m ≡ true
    → (is_quiet m ≡ false) × (is_dispatching m ≡ false) × Asks job c below m
in-return job c below (AtExit m rest) e = (refl, refl, record { names = tt; acted = λ h. false_true h; free = λ h. false_true h; found = tt })
in-return job c below (Exiting m rest) e = (refl, refl, record { names = tt; acted = λ h. false_true h; free = λ h. false_true h; found = tt })
in-return job c below (EndingExit m rest) e = (refl, refl, record { names = tt; acted = λ h. false_true h; free = λ h. false_true h; found = tt })
in-return job c below Returning e = (refl, refl, record { names = tt; acted = λ h. false_true h; free = λ h. false_true h; found = tt })
in-return job c below _ e = false_true e

-- ## acts to come

-- how many scripted calls will be open after the present act, and the acts after it
abbrev pub ToCome : (ℕ → List TaskAct → Type 0) → TaskState → Type 0
ToCome P x = P (open_by (is_returning x.moment) x.stack) (acts_by (is_quiet x.moment) x.acts)

-- what is told so stays told when an act is done
pub record Passes (P : ℕ → List TaskAct → Type 0) : Type 0 where
  pub enters : (n : ℕ) (f : _) (rest : List TaskAct) → P n (Call f ∷ rest) → P (suc n) rest
  pub leaves : (n : ℕ) (rest : List TaskAct) → P (suc n) (RetAct ∷ rest) → P n rest
  pub raises : (n : ℕ) (c : _) (rest : List TaskAct) → P n (Raise c ∷ rest) → P n rest
  pub lowers : (n : ℕ) (rest : List TaskAct) → P n (Lower ∷ rest) → P n rest
  pub waits : (n m : ℕ) (rest : List TaskAct) → P n (After m ∷ rest) → P n rest

-- within an act the acts to come stay
pub told-stays : (P : ℕ → List TaskAct → Type 0) (b b' : Bool) (n n' : ℕ) (acts : List TaskAct) → b ≡ false → b' ≡ false → n' ≡ n
    → P n (acts_by b acts) → P n' (acts_by b' acts)
told-stays P b b' n n' acts q q' e h = subst (λ (y : ℕ × Bool). P y.0 (acts_by y.1 acts)) (λ i. (sym e i, (q ∙ sym q') i)) h

-- a task keeps its invariant, and something is so of its acts
abbrev pub Keeps : Job → (ℕ → List TaskAct → Type 0) → TaskState → Type 0
Keeps job P x = TaskInvariant job x × ToCome P x

-- a task with these calls, at a moment
abbrev pub standing : TaskState → List OpenCall → Moment → TaskState
standing x stack m = record x { stack = stack; moment = m }

-- ## steps within an act

-- a call that runs elsewhere, and whose frame has changed
abbrev pub changed : OpenCall → Ran → FuncNo → Bool → List FrameUser → OpenCall
changed c r f framed users = record c { ran = r; runs = f; framed = framed; users = users }

module _ (job : Job) (c : OpenCall) (below : List OpenCall) where
  -- a call at another moment
  pub call-goes : (m m' : Moment) (r : Ran) (f : FuncNo) (framed : Bool) (users : List FrameUser) → (is_quiet m' ≡ true → c.scripted ≡ true)
      → Each (λ o. o.user < length job.users) users → Asks job c below m' → CallInvariant job c below m
      → CallInvariant job (changed c r f framed users) below m'
  call-goes m m' r f framed users scripted us asks k = record {
    func = k.func;
    users = us;
    names = asks.names;
    scripted = scripted;
    acted = asks.acted;
    called = k.called;
    free = asks.free;
    found = asks.found;
  }

  -- a task whose top call is at another moment of the same act
  pub task-goes : (P : ℕ → List TaskAct → Type 0) (x : TaskState) (m m' : Moment) (r : Ran) (f : FuncNo) (framed : Bool) (users : List FrameUser)
      → is_quiet m ≡ false → is_quiet m' ≡ false → open_by (is_returning m') (c ∷ below) ≡ open_by (is_returning m) (c ∷ below)
      → (is_dispatching m' ≡ true → is_dispatching m ≡ true) → AreFramed job.frames (changed c r f framed users ∷ below)
      → Each (λ o. o.user < length job.users) users → Asks job c below m' → Keeps job P (with_top x c below m)
      → Keeps job P (with_top x (changed c r f framed users) below m')
  task-goes P x m m' r f framed users q q' open' dispatches fr us asks (k, told) = (
    record {
      script = told-stays (λ n acts. IsScript job n acts) _ _ _ _ x.acts q q' open' k.script;
      raised = told-stays (λ n acts. AreRaised x.contexts acts) _ _ _ _ x.acts q q' open' k.raised;
      stands = subst (λ b. StandsIn b x.acts (changed c r f framed users ∷ below)) (sym q') (has, refl);
      first = first-loud m' x.acts q';
      ground = λ e. k.ground (more (is_dispatching m) (is_dispatching m') (not c.scripted) dispatches e);
      framed = fr;
      calls = (call-goes m m' r f framed users (λ e. false_true (sym q' ∙ e)) us asks k.calls.0, k.calls.1);
    },
    told-stays P _ _ _ _ x.acts q q' open' told,
  )
    where
      has : has_acts x.acts ≡ true
      has = (subst (λ b. StandsIn b x.acts (c ∷ below)) q k.stands).0

      more : (b b' s : Bool) → (b' ≡ true → b ≡ true) → (b' || s) ≡ true → (b || s) ≡ true
      more true b' s h e = refl
      more false true s h e = false_true (h refl)
      more false false s h e = e

  -- the same where the call stays
  pub moment-goes : (P : ℕ → List TaskAct → Type 0) (x : TaskState) (m m' : Moment) → is_quiet m ≡ false → is_quiet m' ≡ false
      → open_by (is_returning m') (c ∷ below) ≡ open_by (is_returning m) (c ∷ below) → (is_dispatching m' ≡ true → is_dispatching m ≡ true)
      → Asks job c below m' → Keeps job P (with_top x c below m) → Keeps job P (with_top x c below m')
  moment-goes P x m m' q q' open' dispatches asks k =
      task-goes P x m m' c.ran c.runs c.framed c.users q q' open' dispatches k.0.framed k.0.calls.0.users asks k
