-- Each mark of the top call keeps the invariant of a task and its stacks, where something is to come.
use Rattle.std.proofs.Common.{cond, ◌≡◌, ℕ, suc, Bool, true, false, List, [], ◌∷◌, drop, refl, subst}
use Rattle.std.specs.Prelude.{Option}
use Rattle.ft_base.specs.declared.context.Ctx.{Ctx}
use Rattle.ft_base.specs.declared.item.Ran.TheVariants.{List as ByList}
use Rattle.ft_base.specs.declared.number.FuncNo.{FuncNo}
use Rattle.ft_base.specs.declared.number.TaskNo.{TaskNo}
use Rattle.ft_base.specs.declared.number.UserNo.{UserNo}
use Rattle.ft_base.specs.declared.user.Kind.{Kind}
use Rattle.ft_base.specs.Job.{Job, Spec}
use Rattle.ft_base.specs.Kinds.{has_depth, is_fprobe}
use Rattle.ft_hist.specs.Frames.{FrameUser, runs_after}
use Rattle.ft_hist.specs.Plain.{owed_by}
use Rattle.recursion_guard.specs.Guards.{left}
use Rattle.return_stack.specs.declared.shadow.FrameUser.{FrameUser as OwedUser}
use Rattle.return_stack.specs.Calls.{CallStack, StackedCall}
use Rattle.fprobe.specs.declared.entry.Probe.{Probe}
use Rattle.fprobe.specs.declared.entry.Probe.TheVariants.{Plain, Wanted, Cancelled, Missed}
use Rattle.fprobe.specs.Entry.{calls_after}
use Rattle.word_map.specs.declared.shape.Shape.{Shape}
use Rattle.word_map.specs.Shapes.{shape_of}
use Rattle.word_machine.specs.Calls.{under_by}
use Rattle.word_machine.specs.Task.{First as MachineFirst, Polling as MachinePolling, Ending as MachineEnding, Closing as MachineClosing, user_of}
use Rattle.word_machine.proofs.Small.{if_case}
use Rattle.task_core.specs.declared.moment.Moment.{Moment}
use Rattle.task_core.specs.declared.moment.Moment.TheVariants.{Mark}
use Rattle.task_core.specs.declared.moment.ToMark.{ToMark}
use Rattle.task_core.specs.declared.moment.ToMark.TheVariants.{Refusing, Calling, Missing, Acting, Ending, Closing, Leaving, Exiting, EndingExit, Returning}
use Rattle.task_core.specs.declared.open_call.OpenCall.{OpenCall as CodeCall}
use Rattle.task_core.specs.declared.task.Task.{Task}
use Rattle.task_core.specs.Leads.{act_to}
use Rattle.task_core.specs.Opens.{top_of}
use Rattle.task_core.specs.Setups.{PlainSetup, declared_in, setup_in}
use Rattle.task_core.specs.States.{mark_moment, stack_in, users_in}
use Rattle.task_core.specs.TaskSteps.{acted, after_mark, body_begun, called_back, lacks_frame, returned, stacks_after}
use Rattle.task_core.specs.StackInvariant.{StackInvariant, HasMark, StackedCallInvariant, WalksAt, at_user}
use Rattle.task_core.proofs.StackParts.{StackInvariantBelow, TaskStackInvariant, act-stack, exit-stack, goes, passed-stack, still-stack, walks-ending, with_calls}

-- ## stacks after a callback

-- the call on top has another frame
module _ (P : List StackedCall → Type 0) (s : StackedCall) (ss : List StackedCall)
    (f : (users : Option (List OwedUser)) → P (record s { users = users } ∷ ss)) where
  probe-stacks : (probe : Probe) (user : OwedUser) → P (calls_after probe (s ∷ ss) user)
  probe-stacks Plain user = f s.users
  probe-stacks Missed user = f s.users
  probe-stacks Cancelled user = f _
  probe-stacks Wanted user = f _

  after-stacks : (kind : Kind) (t : CallStack) (user : OwedUser) → P (stacks_after kind (record t { calls = s ∷ ss }) user).calls
  after-stacks kind t user =
      if_case P (has_depth kind) _ _
      (λ e. f _)
      (λ e. if_case P (is_fprobe kind) _ _ (λ d. probe-stacks _ user) (λ d. f s.users))

-- ## the calls below a call that returns

-- the callback ends whose act made it
rest-ending : (shape : Shape) (number : TaskNo) (os : List CodeCall) (ss : List StackedCall)
    → StackInvariant shape number (MachineEnding (user_of (stack_in os ss))) os ss → StackInvariant shape number (MachineEnding (top_of os).user.0) os ss
rest-ending shape number [] [] k = tt
rest-ending shape number [] (s ∷ ss) k = absurd k
rest-ending shape number (o ∷ os) [] k = absurd k
rest-ending shape number (o ∷ os) (s ∷ ss) k = k

-- ## the rows

-- k is what is known of the top call at any moment: at the Body nothing is asked of its walk
module _ (job : Job) (t : Task) (o : CodeCall) (os : List CodeCall) (s : StackedCall) (ss : List StackedCall)
    (k : StackedCallInvariant (shape_of job) t.number MachineClosing o s) (below : StackInvariantBelow (shape_of job) t.number o os s ss) where
  abbrev shape : Shape
  shape = shape_of job

  abbrev setup : PlainSetup
  setup = setup_in job

  abbrev P : Task → Type 0
  P u = TaskStackInvariant shape u

  -- the task at a moment
  abbrev here : Moment → Task
  here m = with_calls t (o ∷ os) (s ∷ ss) m

  -- the users of the top call's frame
  abbrev users : List FrameUser
  users = users_in s.users

  -- its walk stands at a user, if the call goes through the list
  abbrev IsAtUser : ℕ → Type 0
  IsAtUser u = o.ran ≡ ByList → o.walk.phase ≡ at_user u

  -- ### a callback

  module _ (from : Moment) (spec : Spec) (u : UserNo) (reg place : ℕ) (w : IsAtUser u.0) where
    -- the call after the callback
    abbrev called : CodeCall
    called = record o { runs = runs_after o.runs spec.ipmodify }

    -- no frame is there for its exit
    abbrev misses : Bool
    misses = lacks_frame spec.kind (here from).stacks

    -- these are the stacks after it
    abbrev Q : List StackedCall → Type 0
    Q calls = P (with_calls t (called ∷ os) calls (cond misses (Mark (Missing u)) (act_to u (owed_by o.ctx spec.act))))

    framed-stack : (framed : Option (List OwedUser)) → Q (record s { users = framed } ∷ ss)
    framed-stack framed =
        let now : StackedCall = record s { users = framed } in
        let tie : StackedCallInvariant shape t.number MachineClosing called now = record { call = k.call; task = k.task; shape' = k.shape'; walk = tt } in
        if_case (λ m. P (with_calls t (called ∷ os) (now ∷ ss) m)) misses _ _
        (λ e. goes shape t called os now ss tie below t.guards (Mark (Missing u)) w tt)
        (λ e. act-stack shape t called os now ss tie below u (owed_by o.ctx spec.act) w)

    called-stack : P (called_back (here from) spec u reg place)
    called-stack = after-stacks Q s ss framed-stack spec.kind t.stacks (record { user = u; reg = reg; entry = place })

  acted-stack : (from : Moment) (u : UserNo) (f : FuncNo) (x : Ctx) → IsAtUser u.0 → P (acted (here from) shape u f x)
  acted-stack from u f x w = record {
    tied = (
      record { call = refl; task = refl; shape' = refl; walk = refl },
      (record { call = k.call; task = k.task; shape' = k.shape'; walk = w }, below),
    );
    moment = tt;
  }

  -- ### the body and the return

  body-stack : (from : Moment) → P (body_begun (here from))
  body-stack from =
      if_case P o.scripted _ _
      (λ e. record { tied = (record { call = k.call; task = k.task; shape' = k.shape'; walk = tt }, below); moment = tt })
      (λ e. record { tied = (record { call = k.call; task = k.task; shape' = k.shape'; walk = tt }, below); moment = tt })

  returned-stack : (from : Moment) → P (returned (here from))
  returned-stack from =
      if_case P o.scripted _ _
      (λ e. record { tied = still-stack shape t.number MachineFirst MachinePolling (λ ran phase. tt) os ss (under true e); moment = tt })
      (λ e. record { tied = rest-ending shape t.number os ss (under false e); moment = tt })
    where
      under : (b : Bool) → o.scripted ≡ b → StackInvariant shape t.number (under_by b (user_of (stack_in os ss))) os ss
      under b e = subst (λ c. StackInvariant shape t.number (under_by c (user_of (stack_in os ss))) os ss) e below

  pub mark-stack : (mark : ToMark) (place : ℕ) → WalksAt o.ran (mark_moment users mark) o.walk.phase → HasMark users mark
      → P (after_mark (here (Mark mark)) setup mark place)
  mark-stack (Refusing u reg reason) place w h = passed-stack shape t o os s ss k below t.guards (Mark (Refusing u reg reason)) u.0 w
  mark-stack (Calling u reg) place w h = called-stack (Mark (Calling u reg)) (declared_in setup u.0) u reg place w
  mark-stack (Missing u) place w h = act-stack shape t o os s ss k below u (owed_by o.ctx (declared_in setup u.0).act) w
  mark-stack (Acting u f x) place w h = acted-stack (Mark (Acting u f x)) u f x w
  mark-stack (Ending u) place w h = passed-stack shape t o os s ss k below (left t.guards) (Mark (Ending u)) u.0 w
  mark-stack Closing place w h = body-stack (Mark Closing)
  mark-stack Leaving place w h = exit-stack shape t o os s ss k below (Mark Leaving) 0
  mark-stack (Exiting i) place w h =
      goes shape t o os s ss k below t.guards (Mark (EndingExit i)) (walks-ending o.ran o.walk.phase (drop i users)) h
  mark-stack (EndingExit i) place w h = exit-stack shape t o os s ss k below (Mark (EndingExit i)) (suc i)
  mark-stack Returning place w h = returned-stack (Mark Returning)
