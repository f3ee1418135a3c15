-- What a mark makes of a task is what the machine makes of it, but for a callback.
use Rattle.std.proofs.Common.{cond, ◌≡◌, ℕ, suc, Bool, true, false, List, ◌∷◌, drop, length, Option, Some, None, refl, sym, ap}
use Rattle.ft_base.specs.declared.context.Ctx.{Ctx}
use Rattle.ft_base.specs.declared.item.Ran.{Ran}
use Rattle.ft_base.specs.declared.item.Ran.TheVariants.{Nop, List as ByList, Own}
use Rattle.ft_base.specs.declared.number.FuncNo.{FuncNo}
use Rattle.ft_base.specs.declared.number.TaskNo.{TaskNo}
use Rattle.ft_base.specs.declared.number.UserNo.{UserNo}
use Rattle.ft_base.specs.Job.{Job}
use Rattle.ft_base.specs.Same.{same_ctx}
use Rattle.ft_hist.specs.Frames.{FrameUser}
use Rattle.ft_hist.specs.Plain.{Owed}
use Rattle.ft_hist.specs.Dispatch.{call_of}
use Rattle.return_stack.specs.Calls.{StackedCall}
use Rattle.word_map.specs.declared.shape.Shape.{Shape}
use Rattle.word_machine.specs.Task.{act_in, after_user, at_moment, opened}
use Rattle.word_machine.specs.Task as machine
use Rattle.task_core.specs.declared.moment.Moment.{Moment}
use Rattle.task_core.specs.declared.moment.Moment.TheVariants.{Mark}
use Rattle.task_core.specs.declared.moment.ToMark.TheVariants.{Acting}
use Rattle.task_core.specs.declared.open_call.OpenCall.{OpenCall as CodeCall}
use Rattle.task_core.specs.declared.task.Task.{Task}
use Rattle.task_core.specs.Leads.{act_to, after_user_to}
use Rattle.task_core.specs.Moments.{walking_at}
use Rattle.task_core.specs.States.{joined, moment_at, stack_in, state_of, users_in}
use Rattle.task_core.specs.TaskInvariant.{act_raised}
use Rattle.task_core.specs.TaskSteps.{acted, at, passed, with_raised}
use Rattle.task_core.specs.StackInvariant.{at_user}
use Rattle.task_core.proofs.RowLists.{standing}

-- in a callback: the call of the user's act, or the end
pub act-moment : (o : CodeCall) (users : List FrameUser) (u : UserNo) (owed : Option Owed) → moment_at o users (act_to u owed) ≡ act_in owed u.0
act-moment o users u None = refl
act-moment o users u (Some owed) = refl

-- after a user
after-moment : (o : CodeCall) (users : List FrameUser) (u : ℕ) (ran : Ran) → (ran ≡ ByList → o.walk.phase ≡ at_user u)
    → moment_at o users (after_user_to ran) ≡ after_user ran u
after-moment o users u Nop e = refl
after-moment o users u ByList e = ap walking_at (e refl)
after-moment o users u (Own w) e = refl

module _ (job : Job) (t : Task) (o : CodeCall) (os : List CodeCall) (s : StackedCall) (ss : List StackedCall) where
  -- the task at a moment
  abbrev now : Moment → Task
  now m = standing t (o ∷ os) (s ∷ ss) m

  pub passed-row : (m : Moment) (u : ℕ) → (o.ran ≡ ByList → o.walk.phase ≡ at_user u)
      → state_of (passed (now m)) ≡ at_moment (state_of (now m)) (after_user o.ran u)
  passed-row m u e = ap (at_moment (state_of (now m))) (after-moment o (users_in s.users) u o.ran e)

  pub acts-row : (m : Moment) (u : UserNo) (owed : Option Owed)
      → state_of (at (now m) (act_to u owed)) ≡ at_moment (state_of (now m)) (act_in owed u.0)
  acts-row m u owed = ap (at_moment (state_of (now m))) (act-moment o (users_in s.users) u owed)

  -- a user's act makes its call, which raises its context if that isn't the callback's
  pub acted-row : (shape : Shape) (u : UserNo) (f : FuncNo) (x : Ctx) → o.call.task ≡ t.number
      → (let y = now (Mark (Acting u f x)) in
      state_of (acted y shape u f x)
      ≡ record (state_of y) {
        next = suc t.next;
        stack = opened (call_of o.call.task t.next) x f.0 false ∷ record (joined o s) { user = u.0 } ∷ stack_in os ss;
        moment = machine.Fetch;
      })
  acted-row shape u f x e =
      ap (λ (p : TaskNo × List Ctx). record (state_of y) {
        next = suc t.next;
        contexts = p.1;
        stack = opened (call_of p.0 t.next) x f.0 false ∷ record (joined o s) { user = u.0 } ∷ stack_in os ss;
        moment = machine.Fetch;
      })
      (λ i. (sym e i, by (same_ctx x o.ctx) i))
    where
      y : Task
      y = now (Mark (Acting u f x))

      raised : List Ctx
      raised = act_raised (joined o s ∷ stack_in os ss)

      by : (same : Bool)
          → drop (length (cond same raised (x ∷ raised))) (cond same t.guards (with_raised t.guards x)).raised ≡ drop (length raised) t.guards.raised
      by true = refl
      by false = refl
