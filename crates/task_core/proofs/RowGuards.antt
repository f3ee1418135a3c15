-- The guard that a user's test finds, and what the tests of a user that is on make of a task.
use Rattle.std.proofs.Common.{cond, ◌≡◌, ℕ, Bool, true, false, List, ◌∷◌, nat_le, refl, ap, ◌∙◌}
use Rattle.ft_base.specs.declared.context.Ctx.{Ctx}
use Rattle.ft_base.specs.declared.item.Reason.TheVariants.{Recursion}
use Rattle.ft_base.specs.declared.number.UserNo.{UserNo}
use Rattle.ft_base.specs.Desk.{spec_at}
use Rattle.ft_base.specs.Job.{Job}
use Rattle.ft_base.specs.Kinds.{has_depth}
use Rattle.ft_base.specs.Same.{context}
use Rattle.ft_hist.specs.Dispatch.{is_full}
use Rattle.recursion_guard.specs.Guards.{entered, held_in}
use Rattle.recursion_guard.specs.Guards as guards
use Rattle.return_stack.specs.Calls.{StackedCall}
use Rattle.word_machine.specs.Task.{OpenCall, at_moment, begin_call, guard_in, guard_test, guards_under, pid_in}
use Rattle.task_core.specs.declared.moment.Moment.{Moment as CodeMoment}
use Rattle.task_core.specs.declared.moment.Moment.TheVariants.{Load, Mark}
use Rattle.task_core.specs.declared.moment.ToLoad.TheVariants.{AtPids, AtDepth}
use Rattle.task_core.specs.declared.moment.ToMark.TheVariants.{Refusing, Calling}
use Rattle.task_core.specs.declared.open_call.OpenCall.{OpenCall as CodeCall}
use Rattle.task_core.specs.declared.task.Task.{Task}
use Rattle.task_core.specs.States.{joined, moment_of, stack_in, state_of}
use Rattle.task_core.specs.TaskInvariant.{holds_guard, is_dispatching}
use Rattle.task_core.specs.TaskSteps.{guard_tested, tested}
use Rattle.task_core.specs.TaskSteps as code
use Rattle.task_core.specs.StackInvariant.{IsTaskOf}
use Rattle.task_core.proofs.RowLists.{standing}
use Rattle.task_core.proofs.CallContexts.{context-is}
use Rattle.task_core.proofs.ExitGuards.{guards-free}

module _ (job : Job) (t : Task) (o : CodeCall) (os : List CodeCall) (s : StackedCall) (ss : List StackedCall) (m : CodeMoment) where
  -- the task at the moment, and its top call as the machine has it
  abbrev now : Task
  now = standing t (o ∷ os) (s ∷ ss) m

  abbrev c : OpenCall
  c = joined o s

  abbrev below : List OpenCall
  below = stack_in os ss

  -- in a dispatch the present context is that of the call
  pub present-context : IsTaskOf job now → is_dispatching (moment_of now) ≡ true → context t.guards.raised ≡ o.ctx
  present-context k h =
      ap context k.raised ∙ context-is job (state_of now) k.steady c below refl h

  -- so all levels of its guard are held exactly if the calls below hold them
  pub guard-is : IsTaskOf job now → is_dispatching (moment_of now) ≡ true → holds_guard (moment_of now) ≡ false
      → guards.is_full t.guards ≡ is_full job (guards_under o.scripted below) o.ctx
  guard-is k h free =
      ap (λ (x : Ctx). nat_le t.guards.levels (held_in t.guards.held x)) (present-context k h)
      ∙ (λ i. nat_le (k.levels' i) (k.held o.ctx i))
      ∙ ap (λ (held : List Ctx). is_full job held o.ctx) (guards-free (moment_of now) c below free)

  module _ (full : guards.is_full t.guards ≡ is_full job (guards_under o.scripted below) o.ctx) (u : UserNo) (reg : ℕ) where
    -- the guard
    pub guard-row : state_of (guard_tested now (spec_at job u.0) u reg) ≡ at_moment (state_of now) (guard_test job c below u.0 reg)
    guard-row = by (guards.is_full t.guards) (is_full job (guards_under o.scripted below) o.ctx) (has_depth (spec_at job u.0).kind) full
      where
        by : (b b' deep : Bool) → b ≡ b'
            → state_of (cond b (code.at now (Mark (Refusing u reg Recursion)))
            (record now { guards = entered t.guards; moment = cond deep (Load (AtDepth u reg)) (Mark (Calling u reg)) }))
            ≡ at_moment (state_of now) (guard_in b' deep u.0 reg)
        by true true deep e = refl
        by false false true e = refl
        by false false false e = refl
        by true false deep e = absurd cc
        by false true deep e = absurd cc

    -- the pid rule before it
    pub begin-row : state_of (tested now (spec_at job u.0) u reg) ≡ at_moment (state_of now) (begin_call job c below u.0 reg)
    begin-row = by (spec_at job u.0).pid guard-row
      where
        by : (b : Bool) → state_of (guard_tested now (spec_at job u.0) u reg) ≡ at_moment (state_of now) (guard_test job c below u.0 reg)
            → state_of (cond b (code.at now (Load (AtPids u reg))) (guard_tested now (spec_at job u.0) u reg))
            ≡ at_moment (state_of now) (pid_in b u.0 reg (guard_test job c below u.0 reg))
        by true e = refl
        by false e = e
