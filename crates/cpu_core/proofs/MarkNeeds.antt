-- A task's mark fits it: a callback finds room in its call's frame, the call of an act room for a call, and a return its caller.
use Rattle.std.proofs.Common.{cond, ◌≡◌, ℕ, suc, ◌-◌, ◌*◌, ◌<◌, ◌≤◌, false, List, [], ◌∷◌, ◌++◌, length, refl, sym, subst, arith}
use Rattle.ft_base.specs.declared.context.Ctx.{Ctx}
use Rattle.ft_base.specs.declared.limits.TheConstants.{USERS}
use Rattle.ft_base.specs.declared.number.FuncNo.{FuncNo}
use Rattle.ft_base.specs.declared.number.UserNo.{UserNo}
use Rattle.ft_base.specs.Job.{Job}
use Rattle.ft_base.specs.Same.{rank, same_ctx}
use Rattle.ft_base.specs.Versions.{levels}
use Rattle.ft_base.proofs.Versions.{few-largest}
use Rattle.return_stack.specs.Calls.{StackedCall}
use Rattle.word_map.specs.Shapes.{shape_of}
use Rattle.word_machine.specs.Calls.{under_call}
use Rattle.word_machine.specs.Laws.{PresentTakes}
use Rattle.word_machine.specs.Limits.{IsLimited}
use Rattle.task_core.specs.declared.moment.Moment.TheVariants.{Mark}
use Rattle.task_core.specs.declared.moment.ToMark.{ToMark}
use Rattle.task_core.specs.declared.moment.ToMark.TheVariants.{Refusing, Calling, Missing, Acting, Ending, Closing, Leaving, Exiting, EndingExit, Returning}
use Rattle.task_core.specs.declared.open_call.OpenCall.{OpenCall as CodeCall}
use Rattle.task_core.specs.declared.task.Task.{Task}
use Rattle.task_core.specs.TaskNeeds.{CanRaise, CanReturn, FitsMark, HasAct, HasCallRoom, HasFrameRoom}
use Rattle.task_core.specs.Opens.{top_of}
use Rattle.task_core.specs.Setups.{declared_in, setup_in}
use Rattle.task_core.specs.States.{joined, mark_moment, stack_in, state_of, users_in}
use Rattle.task_core.specs.TaskInvariant.{IsCalled, act_raised, raised_over}
use Rattle.task_core.specs.StackInvariant.{IsTaskOf}
use Rattle.task_core.proofs.StackCalls.{call-room, owed-some, users-room}
use Rattle.cpu_core.proofs.LoadNeeds.{taken-is}
use Rattle.task_core.proofs.GuardLaw.{present-is}
use Rattle.task_core.proofs.RowLists.{standing}
use Rattle.task_core.proofs.RowStacks.{frames-are}
use Rattle.task_core.proofs.CallContexts.{act-raises}
use Rattle.cpu_core.proofs.CallRoom.{act-call_fits}
use Rattle.task_core.proofs.ActsLeft.{act-left}

-- ## a return

module _ (o : CodeCall) (os : List CodeCall) (ss : List StackedCall) where
  -- a call that an act made has a caller
  caller-open : o.scripted ≡ false → IsCalled o.scripted o.ctx (stack_in os ss) → 1 < length (o ∷ os)
  caller-open e called = by os (subst (λ b. IsCalled b o.ctx (stack_in os ss)) e called)
    where
      by : (os : List CodeCall) → IsCalled false o.ctx (stack_in os ss) → 1 < length (o ∷ os)
      by [] called = absurd called
      by (b ∷ bb) called = omega arith

  -- in another context than its caller it has raised it
  context-raised : (raised rest : List Ctx) → o.scripted ≡ false → IsCalled o.scripted o.ctx (stack_in os ss)
      → raised ≡ cond o.scripted [] (raised_over o.ctx (stack_in os ss) (act_raised (stack_in os ss))) ++ rest
      → same_ctx o.ctx (top_of os).ctx ≡ false → 0 < length raised
  context-raised raised rest e called is ne = by os ss called' is' ne
    where
      called' : IsCalled false o.ctx (stack_in os ss)
      called' = subst (λ b. IsCalled b o.ctx (stack_in os ss)) e called

      is' : raised ≡ raised_over o.ctx (stack_in os ss) (act_raised (stack_in os ss)) ++ rest
      is' = subst (λ b. raised ≡ cond b [] (raised_over o.ctx (stack_in os ss) (act_raised (stack_in os ss))) ++ rest) e is

      by : (os : List CodeCall) (ss : List StackedCall) → IsCalled false o.ctx (stack_in os ss)
          → raised ≡ raised_over o.ctx (stack_in os ss) (act_raised (stack_in os ss)) ++ rest
          → same_ctx o.ctx (top_of os).ctx ≡ false → 0 < length raised
      by [] ss called is ne = absurd called
      by (b ∷ bb) [] called is ne = absurd called
      by (b ∷ bb) (s ∷ ss) called is ne = (let one = rw ne at is in rw one (omega arith))

-- ## a mark

module _ (job : Job) (limited : IsLimited job) (t : Task) (o : CodeCall) (os : List CodeCall) (s : StackedCall) (ss : List StackedCall) where
  -- a task at a mark
  abbrev here : ToMark → Task
  here l = standing t (o ∷ os) (s ∷ ss) (Mark l)

  act-is : (l : ToMark) → IsTaskOf job (here l) → HasAct (here l)
  act-is l k = act-left job (here l) k refl

  exit-is : (i : ℕ) → i < length (users_in s.users) → length (users_in s.users) ≤ USERS → i < USERS
  exit-is i lt few = omega (arith, lt, few)

  called-fits : (u : UserNo) (reg : ℕ) → IsTaskOf job (here (Calling u reg)) → length (users_in s.users) < length job.users
      → HasFrameRoom (declared_in (setup_in job) u.0).kind (here (Calling u reg)).stacks
  called-fits u reg k lt = record {
    users = users-room s.users USERS (let few = (few-largest job.version limited.counts).few_users in omega (arith, lt, few));
    frame = λ deep. (
        let room = k.steady.calls.0.found deep in
        let e = frames-are (shape_of job) t.number (under_call (joined o s) (stack_in os ss)) os ss k.tied.1 in
        let f = k.frames in
        omega (arith, room, e, f)
        );
  }

  acting-room : (u : UserNo) (f : FuncNo) (x : Ctx) → IsTaskOf job (here (Acting u f x)) → suc t.next < 4_294_967_296 → HasCallRoom (here (Acting u f x))
  acting-room u f x k next =
      let lt = act-call_fits job (t.opens.limit - 2 * levels job) (state_of (here (Acting u f x))) k.steady k.room (joined o s) (stack_in os ss) refl u.0
      (record { ctx = x; func = f.0 }) refl in
      let nested = k.nested in
      call-room job (here (Acting u f x)) k (omega (arith, lt, nested)) next

  acting-raise : (u : UserNo) (f : FuncNo) (x : Ctx) → IsTaskOf job (here (Acting u f x)) → CanRaise (here (Acting u f x)) x
  acting-raise u f x k ne =
      let up = act-raises job (state_of (here (Acting u f x))) k.steady (joined o s) (stack_in os ss) refl u.0 (record { ctx = x; func = f.0 }) refl ne in
      subst (λ (y : Ctx × Ctx). rank y.0 < rank y.1) (λ i. (sym (present-is job t o os s ss (Mark (Acting u f x)) k refl) i, sym up.1 i)) up.0

  returning-fits : IsTaskOf job (here Returning) → CanReturn (here Returning)
  returning-fits k = record {
    act = λ e. act-is Returning k;
    caller = λ e. caller-open o os ss e k.steady.calls.0.called;
    lower = λ e ne. context-raised o os ss t.guards.raised (state_of (here Returning)).contexts e k.steady.calls.0.called k.raised ne;
  }

  module _ (v : ℕ) (next : suc t.next < 4_294_967_296) where
    pub mark-fits : (l : ToMark) → IsTaskOf job (here l) → PresentTakes job (state_of (here l)) (mark_moment (users_in s.users) l) v
        → FitsMark (setup_in job) (here l) l
    mark-fits (Refusing u reg reason) k takes = tt
    mark-fits (Calling u reg) k takes = (k.steady.calls.0.names, called-fits u reg k takes)
    mark-fits (Missing u) k takes = k.steady.calls.0.names
    mark-fits (Acting u f x) k takes = (acting-room u f x k next, acting-raise u f x k)
    mark-fits (Ending u) k takes = taken-is job t o os s ss (Mark (Ending u)) k refl
    mark-fits Closing k takes = λ e. act-is Closing k
    mark-fits Leaving k takes = tt
    mark-fits (Exiting i) k takes = owed-some s.users i k.moment
    mark-fits (EndingExit i) k takes = (owed-some s.users i k.moment, exit-is i k.moment k.few.0)
    mark-fits Returning k takes = returning-fits k
