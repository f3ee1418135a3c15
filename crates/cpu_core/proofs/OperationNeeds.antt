-- What a task's next operation asks is so, and an act that begins can begin.
use Rattle.std.proofs.Common.{◌≡◌, ℕ, suc, ◌-◌, ◌*◌, ◌<◌, true, false, List, [], ◌∷◌, drop, length, slice_get, Some, None, refl, sym, ap, ◌∙◌, subst, arith}
use Rattle.std.specs.Prelude.{Option}
use Rattle.ft_base.specs.declared.context.Ctx.{Ctx}
use Rattle.ft_base.specs.declared.number.FuncNo.{FuncNo}
use Rattle.ft_base.specs.declared.task.TaskAct.{TaskAct}
use Rattle.ft_base.specs.declared.task.TaskAct.TheVariants.{Call, Ret as RetAct, Raise, Lower, After}
use Rattle.ft_base.specs.Job.{Job}
use Rattle.ft_base.specs.Same.{rank, context}
use Rattle.ft_base.specs.Versions.{levels}
use Rattle.ft_base.specs.WellFormed.{IsScript}
use Rattle.ft_base.specs.Tasks.{has_acts}
use Rattle.return_stack.specs.Calls.{StackedCall, top_users}
use Rattle.word_machine.specs.Laws.{PresentTakes}
use Rattle.word_machine.specs.Limits.{IsLimited}
use Rattle.word_machine.specs.Task.{OpenCall, is_quiet}
use Rattle.word_machine.specs.Tasks.{open_by}
use Rattle.task_core.specs.declared.moment.Moment.{Moment}
use Rattle.task_core.specs.declared.moment.Moment.TheVariants.{Polling, First, Load, Mark}
use Rattle.task_core.specs.declared.open_call.OpenCall.{OpenCall as CodeCall}
use Rattle.task_core.specs.declared.task.Task.{Task}
use Rattle.task_core.specs.TaskNeeds.{CanBegin, FitsAt, FitsFirst, HasAct, HasCallRoom, IsInCall, TaskFits}
use Rattle.task_core.specs.Leads.{is_quiet as is_between}
use Rattle.task_core.specs.Setups.{setup_in}
use Rattle.task_core.specs.States.{is_polling, moment_of, stack_in, state_of, users_in}
use Rattle.task_core.specs.TaskOps.{present, top}
use Rattle.task_core.specs.StackInvariant.{IsTaskOf}
use Rattle.task_core.proofs.StackCalls.{call-room, in-call_of, none-open, present-first}
use Rattle.cpu_core.proofs.LoadNeeds.{load-fits}
use Rattle.cpu_core.proofs.MarkNeeds.{mark-fits}
use Rattle.task_core.proofs.RowLists.{standing}
use Rattle.task_core.proofs.ActContexts.{may-lower, may-raise}
use Rattle.cpu_core.proofs.CallRoom.{script-call_fits}
use Rattle.task_core.proofs.ActsLeft.{call-open, has-left, quiet-is}

-- ## the first operation of an act

module _ (job : Job) where
  -- a return of the script has a call
  return-open : (rest : List TaskAct) (stack : List OpenCall) → IsScript job (open_by false stack) (RetAct ∷ rest) → 0 < length stack
  return-open rest [] script = absurd script
  return-open rest (c ∷ below) script = omega arith

  module _ (t : Task) (calls : List CodeCall) (ss : List StackedCall) (k : IsTaskOf job (standing t calls ss First)) (next : suc t.next < 4_294_967_296) where
    -- the task before it
    abbrev before : Task
    before = standing t calls ss First

    called-fits : (f : FuncNo) → slice_get t.acts.all t.acts.gone ≡ Some (Call f) → HasCallRoom before
    called-fits f e =
        let lt = script-call_fits job (t.opens.limit - 2 * levels job) (state_of before) k.steady k.room refl f (drop (suc t.acts.gone) t.acts.all)
        (present-first t.acts.all t.acts.gone (Call f) e) in
        call-room job before k (omega (arith, lt)) next

    returns-fits : slice_get t.acts.all t.acts.gone ≡ Some RetAct → IsInCall before
    returns-fits e =
        in-call_of job before k
        (return-open (drop (suc t.acts.gone) t.acts.all) (stack_in calls ss)
        (subst (λ acts. IsScript job (open_by false (stack_in calls ss)) acts) (present-first t.acts.all t.acts.gone RetAct e) k.steady.script))

    first-fits : FitsFirst before (present before)
    first-fits = by (present before) refl
      where
        by : (act : Option TaskAct) → slice_get t.acts.all t.acts.gone ≡ act → FitsFirst before act
        by None e = tt
        by (Some (Call f)) e = called-fits f e
        by (Some RetAct) e = returns-fits e
        by (Some (Raise x)) e = tt
        by (Some Lower) e = tt
        by (Some (After n)) e = tt

-- ## any operation

module _ (job : Job) (limited : IsLimited job) (v : ℕ) where
  fits-row : (t : Task) (calls : List CodeCall) (ss : List StackedCall) (m : Moment) → IsTaskOf job (standing t calls ss m) → is_polling m ≡ false
      → PresentTakes job (state_of (standing t calls ss m)) (moment_of (standing t calls ss m)) v → suc t.next < 4_294_967_296
      → FitsAt (setup_in job) (standing t calls ss m) m v
  fits-row t calls ss Polling k e takes next = tt
  fits-row t calls ss First k e takes next = first-fits job t calls ss k next
  fits-row t [] ss (Load l) k e takes next = none-open (call-open job (standing t [] ss (Load l)) k refl)
  fits-row t (o ∷ os) [] (Load l) k e takes next = none-open (call-open job (standing t (o ∷ os) [] (Load l)) k refl)
  fits-row t (o ∷ os) (s ∷ ss) (Load l) k e takes next = (
    in-call_of job (standing t (o ∷ os) (s ∷ ss) (Load l)) k (call-open job (standing t (o ∷ os) (s ∷ ss) (Load l)) k refl),
    load-fits job limited v t o os s ss l k takes,
  )
  fits-row t [] ss (Mark l) k e takes next = none-open (call-open job (standing t [] ss (Mark l)) k refl)
  fits-row t (o ∷ os) [] (Mark l) k e takes next = none-open (call-open job (standing t (o ∷ os) [] (Mark l)) k refl)
  fits-row t (o ∷ os) (s ∷ ss) (Mark l) k e takes next = (
    in-call_of job (standing t (o ∷ os) (s ∷ ss) (Mark l)) k (call-open job (standing t (o ∷ os) (s ∷ ss) (Mark l)) k refl),
    mark-fits job limited t o os s ss v next l k takes,
  )

  pub task-fits : (t : Task) → IsTaskOf job t → is_polling t.moment ≡ false → PresentTakes job (state_of t) (moment_of t) v → suc t.next < 4_294_967_296
      → TaskFits (setup_in job) t v
  task-fits t k e takes next = fits-row t t.opens.calls t.stacks.calls t.moment k e takes next

-- ## an act that begins

module _ (job : Job) (t : Task) (k : IsTaskOf job t) (e : t.moment ≡ Polling) where
  -- the task is between two acts
  quiet : is_quiet (moment_of t) ≡ true
  quiet = quiet-is (top t) (users_in (top_users t.stacks.calls)) t.moment ∙ ap is_between e

  -- an interrupt that comes is above the present context
  raise-begins : (x : Ctx) → slice_get t.acts.all t.acts.gone ≡ Some (Raise x) → rank (context t.guards.raised) < rank x
  raise-begins x is =
      let up = may-raise job (state_of t) k.steady quiet x (drop (suc t.acts.gone) t.acts.all) (present-first t.acts.all t.acts.gone (Raise x) is) in
      subst (λ c. rank c < rank x) (sym (ap context k.raised)) up

  -- and one that goes has come
  lower-begins : slice_get t.acts.all t.acts.gone ≡ Some Lower → 0 < length t.guards.raised
  lower-begins is =
      let one = may-lower job (state_of t) k.steady quiet (drop (suc t.acts.gone) t.acts.all) (present-first t.acts.all t.acts.gone Lower is) in
      subst (λ (cs : List Ctx). 0 < length cs) (sym (k.raised ∙ one)) (omega arith)

  pub can-begin : CanBegin t (present t)
  can-begin = by (present t) refl
    where
      by : (act : Option TaskAct) → slice_get t.acts.all t.acts.gone ≡ act → CanBegin t act
      by None is = tt
      by (Some (Call f)) is = tt
      by (Some RetAct) is = tt
      by (Some (Raise x)) is = raise-begins x is
      by (Some Lower) is = lower-begins is
      by (Some (After n)) is = tt

-- an act that the machine's task has is one of the code's
pub has-act : (t : Task) → has_acts (state_of t).acts ≡ true → HasAct t
has-act t e = has-left t.acts.gone t.acts.all e
