-- What the invariant of a task and its stacks asks where it stands, and the moments to which several rows lead.
use Rattle.std.proofs.Common.{◌≡◌, ℕ, ◌<◌, List, [], ◌∷◌, drop, length, Some, None, refl, sym, subst, arith}
use Rattle.std.specs.Prelude.{◌==◌, Option, slice_get}
use Rattle.std.specs.Int.{bit_at}
use Rattle.std.specs.Option.{option_and_then}
use Rattle.std.proofs.lemmas.List.{length-map}
use Rattle.std.proofs.lemmas.Option.{slice_get_within}
use Rattle.ft_base.specs.declared.item.Ran.{Ran}
use Rattle.ft_base.specs.declared.item.Ran.TheVariants.{Nop, List as ByList, Own}
use Rattle.ft_base.specs.declared.item.Reason.TheVariants.{Pid as ByPid, Recursion, Depth as ByDepth}
use Rattle.ft_base.specs.declared.number.TaskNo.{TaskNo}
use Rattle.ft_base.specs.declared.number.UserNo.{UserNo}
use Rattle.ft_base.specs.Job.{Spec}
use Rattle.ft_base.specs.Kinds.{has_depth}
use Rattle.ft_hist.specs.Frames.{FrameUser}
use Rattle.ft_hist.specs.Plain.{Owed}
use Rattle.ops_list.specs.declared.walker.WalkPhase.{WalkPhase}
use Rattle.recursion_guard.specs.Guards.{GuardState, entered, is_full, left}
use Rattle.return_stack.specs.declared.shadow.FrameUser.{FrameUser as OwedUser}
use Rattle.return_stack.specs.Calls.{StackedCall, frames_in, top_users}
use Rattle.word_map.specs.declared.shape.Shape.{Shape}
use Rattle.word_machine.specs.Calls.{under_call}
use Rattle.word_machine.specs.Task.{Moment as MachineMoment, Closing as MachineClosing, is_too_deep, next_exit}
use Rattle.word_machine.proofs.Small.{if_case}
use Rattle.task_core.specs.declared.moment.Moment.{Moment}
use Rattle.task_core.specs.declared.moment.Moment.TheVariants.{Load, Mark}
use Rattle.task_core.specs.declared.moment.ToLoad.TheVariants.{Walking, AtPids, AtDepth, AtExit}
use Rattle.task_core.specs.declared.moment.ToMark.TheVariants.{Refusing, Calling, Acting, Ending, Closing, Returning}
use Rattle.task_core.specs.declared.open_call.OpenCall.{OpenCall as CodeCall}
use Rattle.task_core.specs.declared.task.Task.{Task}
use Rattle.task_core.specs.Leads.{act_to, after_user_to}
use Rattle.task_core.specs.Moments.{walking_at}
use Rattle.task_core.specs.States.{ending_exit, exiting, joined, moment_at, moment_of, plain_user, stack_in, users_in}
use Rattle.task_core.specs.TaskOps.{owed_at, top}
use Rattle.task_core.specs.TaskSteps.{depth_tested, exit_from, exit_to, guard_tested, passed, pid_tested, tested}
use Rattle.task_core.specs.StackInvariant.{StackInvariant, HasMoment, StackedCallInvariant, IsWalking, WalksAt, at_user}

-- A task of a job with this shape keeps the invariant of its stacks, and stands where something is to come.
pub record TaskStackInvariant (shape : Shape) (u : Task) : Type 0 where
  pub tied : StackInvariant shape u.number (moment_of u) u.opens.calls u.stacks.calls
  pub moment : HasMoment shape (top u) (users_in (top_users u.stacks.calls)) u.moment

-- a task with these open calls on each side at a moment
abbrev pub with_calls : Task → List CodeCall → List StackedCall → Moment → Task
with_calls t os ss m = record t { opens = record t.opens { calls = os }; stacks = record t.stacks { calls = ss }; moment = m }

-- ## exits

walks-exit : (ran : Ran) (phase : WalkPhase) (users : List FrameUser) → WalksAt ran (next_exit users) phase
walks-exit ran phase [] = tt
walks-exit ran phase (m ∷ rest) = tt

pub walks-exiting : (ran : Ran) (phase : WalkPhase) (users : List FrameUser) → WalksAt ran (exiting users) phase
walks-exiting ran phase [] = tt
walks-exiting ran phase (m ∷ rest) = tt

pub walks-ending : (ran : Ran) (phase : WalkPhase) (users : List FrameUser) → WalksAt ran (ending_exit users) phase
walks-ending ran phase [] = tt
walks-ending ran phase (m ∷ rest) = tt

-- a place at which an exit is owed is one of the frame
owed-within : (users : Option (List OwedUser)) (i : ℕ) (m : OwedUser) → option_and_then (λ us. slice_get us i) users ≡ Some m
    → i < length (users_in users)
owed-within None i m e = absurd cc
owed-within (Some us) i m e =
    let lt : i < length us = slice_get_within us i m e in
    omega (arith, length-map us plain_user)

-- ## a call at a moment

-- after a user the walk stands there
walks-on : (ran : Ran) (phase : WalkPhase) (u : ℕ) → phase ≡ at_user u → ran ≡ ByList
    → WalksAt ran (walking_at phase) phase × IsWalking phase
walks-on ran phase u e l = subst (λ p. WalksAt ran (walking_at p) p × IsWalking p) (sym e) ((refl, l), tt)

-- ## all calls

-- at a moment that asks nothing of a walk
pub still-stack : (shape : Shape) (number : TaskNo) (m m' : MachineMoment) → ((ran : Ran) (phase : WalkPhase) → WalksAt ran m' phase)
    → (os : List CodeCall) (ss : List StackedCall) → StackInvariant shape number m os ss → StackInvariant shape number m' os ss
still-stack shape number m m' walk [] [] k = tt
still-stack shape number m m' walk [] (s ∷ ss) k = absurd k
still-stack shape number m m' walk (o ∷ os) [] k = absurd k
still-stack shape number m m' walk (o ∷ os) (s ∷ ss) k =
    (record { call = k.0.call; task = k.0.task; shape' = k.0.shape'; walk = walk o.ran o.walk.phase }, k.1)

-- the calls below the top one
abbrev pub StackInvariantBelow : Shape → TaskNo → CodeCall → List CodeCall → StackedCall → List StackedCall → Type 0
StackInvariantBelow shape number o os s ss = StackInvariant shape number (under_call (joined o s) (stack_in os ss)) os ss

-- k is what is known of the top call at any moment: at the Body nothing is asked of its walk
module _ (shape : Shape) (t : Task) (o : CodeCall) (os : List CodeCall) (s : StackedCall) (ss : List StackedCall)
    (k : StackedCallInvariant shape t.number MachineClosing o s) (below : StackInvariantBelow shape t.number o os s ss) where
  abbrev P : Task → Type 0
  P u = TaskStackInvariant shape u

  -- the task at a moment
  abbrev here : Moment → Task
  here m = with_calls t (o ∷ os) (s ∷ ss) m

  -- its moment for the machine
  abbrev there : Moment → MachineMoment
  there m = moment_at o (users_in s.users) m

  -- its walk stands at a user, if the call goes through the list
  abbrev IsAtUser : ℕ → Type 0
  IsAtUser u = o.ran ≡ ByList → o.walk.phase ≡ at_user u

  -- it goes on at another moment, and its guards are its own affair
  pub goes : (g : GuardState) (m : Moment) → WalksAt o.ran (there m) o.walk.phase → HasMoment shape o (users_in s.users) m
      → P (record (here m) { guards = g })
  goes g m walk has = record {
    tied = (record { call = k.call; task = k.task; shape' = k.shape'; walk = walk }, below);
    moment = has;
  }

  -- ## the tests of a user

  guard-stack : (from : Moment) (spec : Spec) (u : UserNo) (reg : ℕ) → IsAtUser u.0 → P (guard_tested (here from) spec u reg)
  guard-stack from spec u reg w =
      if_case P (is_full t.guards) _ _
      (λ e. goes t.guards (Mark (Refusing u reg Recursion)) w tt)
      (λ e. if_case (λ m. P (record (here m) { guards = entered t.guards })) (has_depth spec.kind) _ _
      (λ d. goes (entered t.guards) (Load (AtDepth u reg)) w tt)
      (λ d. goes (entered t.guards) (Mark (Calling u reg)) w tt))

  pub tested-stack : (from : Moment) (spec : Spec) (u : UserNo) (reg : ℕ) → IsAtUser u.0 → P (tested (here from) spec u reg)
  tested-stack from spec u reg w =
      if_case P spec.pid _ _
      (λ e. goes t.guards (Load (AtPids u reg)) w tt)
      (λ e. guard-stack from spec u reg w)

  pub pid-stack : (from : Moment) (spec : Spec) (u : UserNo) (reg v : ℕ) → IsAtUser u.0 → P (pid_tested (here from) spec u reg v)
  pid-stack from spec u reg v w =
      if_case P (bit_at v t.number.0 == 1) _ _
      (λ e. guard-stack from spec u reg w)
      (λ e. goes t.guards (Mark (Refusing u reg ByPid)) w tt)

  pub depth-stack : (from : Moment) (frames : ℕ) (u : UserNo) (reg v : ℕ) → IsAtUser u.0 → P (depth_tested (here from) frames u reg v)
  depth-stack from frames u reg v w =
      if_case P (is_too_deep frames v (frames_in ss)) _ _
      (λ e. goes (left t.guards) (Mark (Refusing u reg ByDepth)) w tt)
      (λ e. goes t.guards (Mark (Calling u reg)) w tt)

  -- ## after a user, and in its callback

  pub passed-stack : (g : GuardState) (from : Moment) (u : ℕ) → IsAtUser u → P (passed (record (here from) { guards = g }))
  passed-stack g from u w = by o.ran refl
    where
      by : (ran : Ran) → o.ran ≡ ran → P (record (here (after_user_to ran)) { guards = g })
      by ByList l = let on = walks-on o.ran o.walk.phase u (w l) l in goes g (Load Walking) on.0 (on.1, l)
      by Nop l = goes g (Mark Closing) tt tt
      by (Own x) l = goes g (Mark Closing) tt tt

  pub act-stack : (u : UserNo) (act : Option Owed) → IsAtUser u.0 → P (here (act_to u act))
  act-stack u None w = goes t.guards (Mark (Ending u)) w tt
  act-stack u (Some owed) w = goes t.guards (Mark (Acting u (record { 0 = owed.func }) owed.ctx)) w tt

  -- ## exits

  pub exit-stack : (from : Moment) (i : ℕ) → P (exit_from (here from) i)
  exit-stack from i = by (owed_at (s ∷ ss) i) refl
    where
      by : (m : Option OwedUser) → owed_at (s ∷ ss) i ≡ m → P (here (exit_to i m))
      by None e = goes t.guards (Mark Returning) tt tt
      by (Some m) e = goes t.guards (Load (AtExit i)) (walks-exit o.ran o.walk.phase (drop i (users_in s.users))) (owed-within s.users i m e)
