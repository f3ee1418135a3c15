-- The guards of a task of code are those of its callbacks, and its contexts those of its script and its calls, also after its next operation,
-- after a poll, and when an act begins.
use Rattle.std.proofs.Common.{cond, ◌≡◌, ℕ, Bool, true, false, List, [], ◌∷◌, ◌++◌, Some, None, nat_le, refl, sym, ap, ◌∙◌, subst}
use Rattle.std.specs.Prelude.{Option}
use Rattle.ft_base.specs.declared.context.Ctx.{Ctx}
use Rattle.ft_base.specs.declared.number.FuncNo.{FuncNo}
use Rattle.ft_base.specs.declared.task.TaskAct.{TaskAct}
use Rattle.ft_base.specs.declared.task.TaskAct.TheVariants.{Call, Ret as RetAct, Raise, Lower, After}
use Rattle.ft_base.specs.Job.{Job}
use Rattle.ft_base.specs.Same.{context}
use Rattle.ft_base.proofs.Small.{false_true}
use Rattle.ft_hist.specs.Dispatch.{held_levels}
use Rattle.recursion_guard.specs.Guards.{held_in}
use Rattle.return_stack.specs.declared.shadow.FrameUser.{FrameUser}
use Rattle.return_stack.specs.Calls.{StackedCall, top_users}
use Rattle.word_map.specs.Contents.{low, returned_at}
use Rattle.word_machine.specs.Calls.{under_by}
use Rattle.word_machine.specs.Task.{Moment, AtDepth, Calling, Missing, Acting, Ending, user_of}
use Rattle.word_machine.specs.Task as machine
use Rattle.task_core.specs.declared.moment.Moment.{Moment as CodeMoment}
use Rattle.task_core.specs.declared.moment.Moment.TheVariants.{Polling, First, Load, Mark}
use Rattle.task_core.specs.declared.moment.ToLoad.TheVariants.{Fetch}
use Rattle.task_core.specs.declared.open_call.OpenCall.{OpenCall as CodeCall}
use Rattle.task_core.specs.declared.task.Task.{Task}
use Rattle.task_core.specs.Leads.{is_quiet as is_between}
use Rattle.task_core.specs.Setups.{PlainSetup}
use Rattle.task_core.specs.States.{is_polling, joined, moment_at, moment_of, stack_in, stack_of, state_of, users_in}
use Rattle.task_core.specs.TaskInvariant.{CallsInvariant, act_raised, guards_at, holds_guard, is_dispatching}
use Rattle.task_core.specs.TaskOps.{next_call, owed, present, top}
use Rattle.task_core.specs.TaskSteps.{after_first, begun, entered, exit_to, finished, new_call, task_after}
use Rattle.task_core.specs.StackInvariant.{IsTaskOf}
use Rattle.task_core.proofs.StackCalls.{none-open}
use Rattle.task_core.proofs.Guards.{Guards, GuardsAt, guards-stay, holding, holding-is, in-call, of-call, over-none}
use Rattle.task_core.proofs.GuardLoads.{exit-free, load-guards}
use Rattle.task_core.proofs.GuardMarks.{mark-guards, under-script}
use Rattle.task_core.proofs.RowLists.{standing}
use Rattle.task_core.proofs.CallContexts.{context-is}
use Rattle.task_core.proofs.ActContexts.{none-raised, quiet-raised}
use Rattle.task_core.proofs.ActsLeft.{call-open, quiet-is}

-- a level of a guard is held for a call in its dispatch alone
pub holds-dispatched : (m : Moment) → holds_guard m ≡ true → is_dispatching m ≡ true
holds-dispatched (AtDepth u reg) e = refl
holds-dispatched (Calling u reg) e = refl
holds-dispatched (Missing u) e = refl
holds-dispatched (Acting u o) e = refl
holds-dispatched (Ending u) e = refl
holds-dispatched _ e = false_true e

-- ## the first operation of an act

module _ (t : Task) (calls : List CodeCall) (ss : List StackedCall) (setup : PlainSetup) (v : ℕ) where
  -- before it
  abbrev before : Task
  before = standing t calls ss First

  called-guards : (f : FuncNo) → Guards before → Guards (entered before setup.shape f (context t.guards.raised) true)
  called-guards f h =
      in-call t.guards (new_call (next_call t) (context t.guards.raised) f true setup.shape) calls (record { call = next_call t; users = None }) ss
      (Load Fetch) false refl
      (record { held = λ k. (h.held k ∙ ap (λ gs. held_levels gs k) (sym (under-script (stack_in calls ss)))); raised = refl })

  first-guards : (act : Option TaskAct) → Guards before → Guards (after_first before setup act v)
  first-guards None h = h
  first-guards (Some (Call f)) h = called-guards f h
  first-guards (Some RetAct) h =
      let user : Option FrameUser = owed before 0 in guards-stay t.guards calls ss First (exit_to 0 user) (sym (exit-free 0 user)) h
  first-guards (Some (Raise x)) h = h
  first-guards (Some Lower) h = h
  first-guards (Some (After n)) h = by (nat_le n (returned_at v))
    where
      by : (b : Bool) → Guards (cond b (finished before) (standing t calls ss Polling))
      by true = guards-stay t.guards calls ss First Polling refl h
      by false = guards-stay t.guards calls ss First Polling refl h

-- ## any operation

module _ (job : Job) where
  pub guards-of : (t : Task) → IsTaskOf job t → Guards t
  guards-of t k = record { held = k.held; raised = k.raised }

  module _ (t : Task) (o : CodeCall) (os : List CodeCall) (s : StackedCall) (ss : List StackedCall) (m : CodeMoment) (k : IsTaskOf job (standing t (o ∷ os) (s ∷ ss) m)) where
    -- the present context of a call in its dispatch is its own
    pub present-is : is_dispatching (moment_at o (users_in s.users) m) ≡ true → context t.guards.raised ≡ o.ctx
    present-is d =
        ap context k.raised
        ∙ context-is job (state_of (standing t (o ∷ os) (s ∷ ss) m)) k.steady (joined o s) (stack_in os ss) refl d

    -- and so while a level of its guard is held for it
    pub own-is : holding m ≡ true → context t.guards.raised ≡ o.ctx
    own-is e = present-is (holds-dispatched (moment_at o (users_in s.users) m) (holding-is o (users_in s.users) m ∙ e))

    -- below a scripted call all are
    scripted-below : o.scripted ≡ true → act_raised (stack_in os ss) ≡ []
    scripted-below e =
        none-raised job machine.First (stack_in os ss) refl
        (subst (λ b. CallsInvariant job (under_by b (user_of (stack_in os ss))) (stack_in os ss)) e k.steady.calls.1)

  module _ (setup : PlainSetup) (v : ℕ) where
    got-row : (t : Task) (calls : List CodeCall) (ss : List StackedCall) (m : CodeMoment) → IsTaskOf job (standing t calls ss m) → is_polling m ≡ false
        → Guards (task_after (standing t calls ss m) setup v)
    got-row t calls ss Polling k e = false_true (sym e)
    got-row t calls ss First k e = first-guards t calls ss setup v (present (standing t calls ss First)) (guards-of (standing t calls ss First) k)
    got-row t [] ss (Load l) k e = none-open (call-open job (standing t [] ss (Load l)) k refl)
    got-row t (o ∷ os) [] (Load l) k e = none-open (call-open job (standing t (o ∷ os) [] (Load l)) k refl)
    got-row t (o ∷ os) (s ∷ ss) (Load l) k e =
        load-guards t o os s ss setup v l (present-is t o os s ss (Load l) k)
        (of-call t.guards o os s ss (Load l) (guards-of (standing t (o ∷ os) (s ∷ ss) (Load l)) k))
    got-row t [] ss (Mark l) k e = none-open (call-open job (standing t [] ss (Mark l)) k refl)
    got-row t (o ∷ os) [] (Mark l) k e = none-open (call-open job (standing t (o ∷ os) [] (Mark l)) k refl)
    got-row t (o ∷ os) (s ∷ ss) (Mark l) k e =
        mark-guards t o os s ss setup (low v) l (own-is t o os s ss (Mark l) k) k.steady.calls.0.called (scripted-below t o os s ss (Mark l) k)
        (of-call t.guards o os s ss (Mark l) (guards-of (standing t (o ∷ os) (s ∷ ss) (Mark l)) k))

    pub guards-got : (t : Task) → IsTaskOf job t → is_polling t.moment ≡ false → Guards (task_after t setup v)
    guards-got t k e = got-row t t.opens.calls t.stacks.calls t.moment k e

    pub held-got : (t : Task) → IsTaskOf job t → is_polling t.moment ≡ false → (k : Ctx)
        → held_in (task_after t setup v).guards.held k ≡ held_levels (guards_at (moment_of (task_after t setup v)) (stack_of (task_after t setup v))) k
    held-got t k e = (guards-got t k e).held

    pub raised-got : (t : Task) → IsTaskOf job t → is_polling t.moment ≡ false
        → (task_after t setup v).guards.raised ≡ act_raised (stack_of (task_after t setup v)) ++ (state_of (task_after t setup v)).contexts
    raised-got t k e = (guards-got t k e).raised

  -- ## between acts

  -- a poll changes nothing of it
  pub guards-told : (t : Task) (w : ℕ) → IsTaskOf job t → Guards (record t { word = w })
  guards-told t w k = record { held = k.held; raised = k.raised }

  begun-row : (t : Task) (act : Option TaskAct) → act_raised (stack_of t) ≡ [] → t.moment ≡ Polling → Guards t → Guards (begun t act)
  begun-row t act none e h = by act
    where
      -- at another moment between acts
      stay : (m : CodeMoment) → holding m ≡ false → GuardsAt t.guards t.opens.calls t.stacks.calls m
      stay m free = guards-stay t.guards t.opens.calls t.stacks.calls t.moment m (ap holding e ∙ sym free) h

      by : (act : Option TaskAct) → Guards (begun t act)
      by None = stay First refl
      by (Some (Call f)) = stay First refl
      by (Some RetAct) = stay First refl
      by (Some (Raise x)) = record { held = (stay Polling refl).held; raised = over-none (act_raised (stack_of t)) _ none }
      by (Some Lower) = record { held = (stay Polling refl).held; raised = over-none (act_raised (stack_of t)) _ none }
      by (Some (After n)) = stay First refl

  -- no call of an act is open then
  pub polling-raised : (t : Task) → IsTaskOf job t → t.moment ≡ Polling → act_raised (stack_of t) ≡ []
  polling-raised t k e =
      quiet-raised job (state_of t) k.steady (quiet-is (top t) (users_in (top_users t.stacks.calls)) t.moment ∙ ap is_between e)

  pub guards-begun : (t : Task) → IsTaskOf job t → t.moment ≡ Polling → Guards (begun t (present t))
  guards-begun t k e = begun-row t (present t) (polling-raised t k e) e (guards-of t k)
