-- A task and its stacks keep their invariant, where something is to come: after a step, after a poll, and after its quiet word is told.
use Rattle.std.proofs.Common.{◌≡◌, ℕ, ◌*◌, ◌<◌, ◌≤◌, true, false, List, [], ◌∷◌, length, get_or, Some, None, refl, sym, ap, subst, ◌∙◌, arith}
use Rattle.std.specs.Prelude.{nat_le, Option}
use Rattle.ft_base.specs.declared.task.TaskAct.{TaskAct}
use Rattle.ft_base.specs.declared.task.TaskAct.TheVariants.{Call, Ret as RetAct, Raise, Lower, After}
use Rattle.ft_base.specs.declared.item.Ran.{Ran}
use Rattle.ft_base.specs.declared.number.TaskNo.{TaskNo}
use Rattle.ft_base.specs.Job.{Job, no_task}
use Rattle.ft_base.specs.Versions.{levels}
use Rattle.ft_base.specs.Tasks.{has_acts}
use Rattle.ops_list.specs.declared.walker.WalkPhase.{WalkPhase}
use Rattle.return_stack.specs.Calls.{StackedCall, top_users}
use Rattle.word_map.specs.declared.shape.Shape.{Shape}
use Rattle.word_map.specs.Contents.{low, returned_at}
use Rattle.word_map.specs.Shapes.{shape_of}
use Rattle.word_machine.specs.Task.{Moment as MachineMoment, First as MachineFirst, Polling as MachinePolling, Closing as MachineClosing}
use Rattle.word_machine.proofs.Small.{if_case}
use Rattle.task_core.specs.declared.moment.Moment.{Moment}
use Rattle.task_core.specs.declared.moment.Moment.TheVariants.{Polling, First, Load, Mark}
use Rattle.task_core.specs.declared.open_call.OpenCall.{OpenCall as CodeCall}
use Rattle.task_core.specs.declared.task.Task.{Task}
use Rattle.task_core.specs.Leads.{is_quiet}
use Rattle.task_core.specs.Opens.{top_of}
use Rattle.task_core.specs.Setups.{setup_in}
use Rattle.task_core.specs.States.{is_polling, moment_at, moment_of, stack_in, state_of, users_in}
use Rattle.task_core.specs.TaskOps.{present, top}
use Rattle.task_core.specs.TaskSteps.{after_at, after_first, begun, exit_from, task_after}
use Rattle.task_core.specs.StackInvariant.{StackInvariant, HasMoment, IsTaskOf, StackedCallInvariant, WalksAt}
use Rattle.task_core.proofs.TaskNumbers.{IsSameTask, begun-same, got-same}
use Rattle.task_core.proofs.ActsLeft.{act-left, call-open, has-left}
use Rattle.task_core.proofs.StackLoads.{load-stack}
use Rattle.task_core.proofs.StackMarks.{mark-stack}
use Rattle.task_core.proofs.StackParts.{TaskStackInvariant, exit-stack, still-stack, with_calls}

-- what is known of a call is known of it at the Body too
at-body : (shape : Shape) (t : Task) (m : MachineMoment) (o : CodeCall) (s : StackedCall) → StackedCallInvariant shape t.number m o s
    → StackedCallInvariant shape t.number MachineClosing o s
at-body shape t m o s k = record { call = k.call; task = k.task; shape' = k.shape'; walk = tt }

no-call : {A : Type 0} → 0 < 0 → A
no-call lt = absurd (omega arith)

module _ (job : Job) (t : Task) where
  abbrev shape : Shape
  shape = shape_of job

  abbrev P : Task → Type 0
  P u = TaskStackInvariant shape u

  -- the calls and stacks at a moment
  abbrev Ties : MachineMoment → List CodeCall → List StackedCall → Type 0
  Ties m os ss = StackInvariant shape t.number m os ss

  -- ## the first operation of an act

  leave-stack : (os : List CodeCall) (ss : List StackedCall) → Ties MachineFirst os ss → P (exit_from (with_calls t os ss First) 0)
  leave-stack [] [] k = record { tied = tt; moment = tt }
  leave-stack [] (s ∷ ss) k = absurd k
  leave-stack (o ∷ os) [] k = absurd k
  leave-stack (o ∷ os) (s ∷ ss) k = exit-stack shape t o os s ss (at-body shape t MachineFirst o s k.0) k.1 First 0

  quiet-stack : (os : List CodeCall) (ss : List StackedCall) → Ties MachineFirst os ss → Ties MachinePolling os ss
  quiet-stack os ss k = still-stack shape t.number MachineFirst MachinePolling (λ ran phase. tt) os ss k

  first-stack : (os : List CodeCall) (ss : List StackedCall) (act : Option TaskAct) (v : ℕ) → Ties MachineFirst os ss
      → P (after_first (with_calls t os ss First) (setup_in job) act v)
  first-stack os ss (Some (Call f)) v k = record { tied = (record { call = refl; task = refl; shape' = refl; walk = refl }, k); moment = tt }
  first-stack os ss (Some RetAct) v k = leave-stack os ss k
  first-stack os ss (Some (After n)) v k =
      if_case P (nat_le n (returned_at v)) _ _
      (λ e. record { tied = quiet-stack os ss k; moment = tt })
      (λ e. record { tied = quiet-stack os ss k; moment = tt })
  first-stack os ss (Some (Raise x)) v k = record { tied = k; moment = tt }
  first-stack os ss (Some Lower) v k = record { tied = k; moment = tt }
  first-stack os ss None v k = record { tied = k; moment = tt }

  -- ## all operations

  at-stack : (os : List CodeCall) (ss : List StackedCall) (m : Moment) (v : ℕ)
      → Ties (moment_at (top_of os) (users_in (top_users ss)) m) os ss → HasMoment shape (top_of os) (users_in (top_users ss)) m
      → (is_quiet m ≡ false → 0 < length (stack_in os ss)) → P (after_at (with_calls t os ss m) (setup_in job) m v)
  at-stack os ss Polling v k h call = record { tied = k; moment = tt }
  at-stack os ss First v k h call = first-stack os ss (present t) v k
  at-stack [] ss (Load load) v k h call = no-call (call refl)
  at-stack (o ∷ os) [] (Load load) v k h call = absurd k
  at-stack (o ∷ os) (s ∷ ss) (Load load) v k h call = load-stack job t o os s ss (at-body shape t _ o s k.0) k.1 load v k.0.walk h
  at-stack [] ss (Mark mark) v k h call = no-call (call refl)
  at-stack (o ∷ os) [] (Mark mark) v k h call = absurd k
  at-stack (o ∷ os) (s ∷ ss) (Mark mark) v k h call = mark-stack job t o os s ss (at-body shape t _ o s k.0) k.1 mark (low v) k.0.walk h

  -- ## after a poll

  still : (m : MachineMoment) → ((ran : Ran) (phase : WalkPhase) → WalksAt ran m phase) → Ties (moment_of t) t.opens.calls t.stacks.calls
      → Ties m t.opens.calls t.stacks.calls
  still m walk k = still-stack shape t.number (moment_of t) m walk t.opens.calls t.stacks.calls k

  begun-at : (act : Option TaskAct) → Ties (moment_of t) t.opens.calls t.stacks.calls → P (begun t act)
  begun-at (Some (Raise x)) k = record { tied = still MachinePolling (λ ran phase. tt) k; moment = tt }
  begun-at (Some Lower) k = record { tied = still MachinePolling (λ ran phase. tt) k; moment = tt }
  begun-at _ k = record { tied = still MachineFirst (λ ran phase. tt) k; moment = tt }

-- ## numbers and limits

-- a task that keeps them keeps what a job asks of them
module _ (job : Job) (t u : Task) (k : IsTaskOf job t) (same : IsSameTask t u) where
  pub number-same : u.number.0 < length job.tasks
  number-same = subst (λ (n : TaskNo). n.0 < length job.tasks) (sym same.number) k.number

  pub acts-same : u.acts.all ≡ (get_or job.tasks u.number.0 no_task).acts
  acts-same = same.acts ∙ k.acts ∙ ap (λ (n : TaskNo). (get_or job.tasks n.0 no_task).acts) (sym same.number)

  pub frames-same : u.stacks.frame_limit ≡ job.frames
  frames-same = same.frames ∙ k.frames

  pub limits-same : u.stacks.call_limit ≡ u.opens.limit
  limits-same = same.calls ∙ k.limits ∙ sym same.opens

  pub nested-same : 2 * levels job ≤ u.opens.limit
  nested-same = subst (λ n. 2 * levels job ≤ n) (sym same.opens) k.nested

  pub levels-same : u.guards.levels ≡ levels job
  levels-same = same.levels ∙ k.levels'

  -- an act that was left may be finished
  pub gone-same : t.acts.gone < length t.acts.all → u.acts.gone ≤ length u.acts.all
  gone-same left = subst (λ (acts : List TaskAct). u.acts.gone ≤ length acts) (sym same.acts) (omega (arith, same.gone))

module _ (job : Job) (t : Task) (k : IsTaskOf job t) where
  -- ## after a step

  got-stack : (v : ℕ) → TaskStackInvariant (shape_of job) (task_after t (setup_in job) v)
  got-stack v = at-stack job t t.opens.calls t.stacks.calls t.moment v k.tied k.moment (call-open job t k)

  pub stack-got : (v : ℕ) → let u = task_after t (setup_in job) v in
      StackInvariant (shape_of job) u.number (moment_of u) u.opens.calls u.stacks.calls
  stack-got v = (got-stack v).tied

  pub moment-got : (v : ℕ) → let u = task_after t (setup_in job) v in
      HasMoment (shape_of job) (top u) (users_in (top_users u.stacks.calls)) u.moment
  moment-got v = (got-stack v).moment

  pub gone-got : (v : ℕ) → is_polling t.moment ≡ false → let u = task_after t (setup_in job) v in u.acts.gone ≤ length u.acts.all
  gone-got v p = gone-same job t (task_after t (setup_in job) v) k (got-same t (setup_in job) v) (act-left job t k p)

  -- ## after a poll, and after the quiet word is told

  pub stack-begun : let u = begun t (present t) in StackInvariant (shape_of job) u.number (moment_of u) u.opens.calls u.stacks.calls
  stack-begun = (begun-at job t (present t) k.tied).tied

  pub moment-begun : let u = begun t (present t) in HasMoment (shape_of job) (top u) (users_in (top_users u.stacks.calls)) u.moment
  moment-begun = (begun-at job t (present t) k.tied).moment

  pub gone-begun : has_acts (state_of t).acts ≡ true → let u = begun t (present t) in u.acts.gone ≤ length u.acts.all
  gone-begun left = gone-same job t (begun t (present t)) k (begun-same t) (has-left t.acts.gone t.acts.all left)

  pub stack-told : (w : ℕ) → let u = record t { word = w } in StackInvariant (shape_of job) u.number (moment_of u) u.opens.calls u.stacks.calls
  stack-told w = k.tied

  pub moment-told : (w : ℕ) → let u = record t { word = w } in HasMoment (shape_of job) (top u) (users_in (top_users u.stacks.calls)) u.moment
  moment-told w = k.moment
