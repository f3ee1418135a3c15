-- What a callback makes of a task is what the machine makes of it.
use Rattle.std.proofs.Common.{cond, ◌≡◌, ℕ, Bool, true, false, ◌&&◌, List, [], ◌∷◌, map, refl, sym, ap, ◌∙◌}
use Rattle.ft_base.specs.declared.number.UserNo.{UserNo}
use Rattle.ft_base.specs.declared.user.Kind.{Kind}
use Rattle.ft_base.specs.declared.user.Kind.TheVariants.{Fprobe}
use Rattle.ft_base.specs.Desk.{spec_at}
use Rattle.ft_base.specs.Job.{Job, Spec}
use Rattle.ft_base.specs.Kinds.{has_depth, has_exit, is_fprobe}
use Rattle.ft_base.proofs.Small.{false_true}
use Rattle.ft_hist.specs.Frames.{FrameUser, runs_after}
use Rattle.ft_hist.specs.Plain.{owed_by}
use Rattle.ft_hist.specs.Dispatch.{misses_frame}
use Rattle.return_stack.specs.declared.shadow.FrameUser.{FrameUser as OwedUser}
use Rattle.return_stack.specs.Calls.{CallStack, StackedCall, is_full, with_hook, with_user}
use Rattle.fprobe.specs.Entry.{calls_after}
use Rattle.word_map.specs.Shapes.{shape_of}
use Rattle.word_machine.specs.Task.{OpenCall, Moment, act_in, around, called_back, miss_in, with_top}
use Rattle.word_machine.specs.Task as machine
use Rattle.task_core.specs.declared.moment.Moment.{Moment as CodeMoment}
use Rattle.task_core.specs.declared.moment.Moment.TheVariants.{Mark}
use Rattle.task_core.specs.declared.moment.ToMark.TheVariants.{Calling, Missing}
use Rattle.task_core.specs.declared.open_call.OpenCall.{OpenCall as CodeCall}
use Rattle.task_core.specs.declared.task.Task.{Task}
use Rattle.task_core.specs.Framed.{AreFramed, probe_of, stack_of, stacked}
use Rattle.task_core.specs.Leads.{act_to}
use Rattle.task_core.specs.States.{joined, moment_at, stack_in, state_of, users_in}
use Rattle.task_core.specs.TaskSteps.{lacks_frame, stacks_after}
use Rattle.task_core.specs.TaskSteps as code
use Rattle.task_core.specs.StackInvariant.{IsTaskOf}
use Rattle.task_core.proofs.Callbacks.{fprobe-called, graph-called, other-called}
use Rattle.task_core.proofs.RowLists.{standing}
use Rattle.task_core.proofs.RowStacks.{back-is, stack-is}
use Rattle.task_core.proofs.RowMarks.{act-moment}
use Rattle.task_core.proofs.Stacks.{misses-same}
use Rattle.task_core.proofs.InvariantMarks.{called-framed}

-- of all users an fprobe alone has an exit that may find no frame
no-exit : (k : Kind) → is_fprobe k ≡ false → has_exit k ≡ false
no-exit (Fprobe exit cancel) e = false_true (sym e)
no-exit _ e = refl

module _ (job : Job) (t : Task) (o : CodeCall) (os : List CodeCall) (s : StackedCall) (ss : List StackedCall) (u : UserNo) (reg place : ℕ)
    (k : IsTaskOf job (standing t (o ∷ os) (s ∷ ss) (Mark (Calling u reg)))) where
  -- the task before the callback
  abbrev now : Task
  now = standing t (o ∷ os) (s ∷ ss) (Mark (Calling u reg))

  -- its top call and those below, as the machine has them
  abbrev c : OpenCall
  c = joined o s

  abbrev below : List OpenCall
  below = stack_in os ss

  -- what is declared of the user
  abbrev spec : Spec
  spec = spec_at job u.0

  -- the call after it
  abbrev after : OpenCall
  after = called_back job c below u.0 reg place

  -- the user as a frame owes it
  abbrev user : OwedUser
  user = record { user = u; reg = reg; entry = place }

  calls-are : map stacked (c ∷ below) ≡ s ∷ ss
  calls-are = stack-is (shape_of job) t.number (machine.Calling u.0 reg) (o ∷ os) (s ∷ ss) k.tied

  stacks-are : stack_of t.stacks.call_limit job.frames (c ∷ below) ≡ now.stacks
  stacks-are = λ i. record { calls = calls-are i; call_limit = t.stacks.call_limit; frame_limit = sym k.frames i }

  -- what is left on the stacks
  left-are : (stacks_after spec.kind now.stacks user).calls ≡ stacked after ∷ ss
  left-are = by (has_depth spec.kind) (is_fprobe spec.kind) refl refl ∙ ap (λ (calls : List StackedCall). stacked after ∷ after_one calls) calls-are
    where
      -- the calls below the top
      after_one : List StackedCall → List StackedCall
      after_one [] = []
      after_one (z ∷ rest) = rest

      by : (d f : Bool) → has_depth spec.kind ≡ d → is_fprobe spec.kind ≡ f
          → cond d (with_user (with_hook (s ∷ ss)) user) (cond f (calls_after (probe_of spec.kind (is_full now.stacks)) (s ∷ ss) user) (s ∷ ss))
          ≡ map stacked (after ∷ below)
      by true f e e' =
          ap (λ (calls : List StackedCall). with_user (with_hook calls) user) (sym calls-are)
          ∙ sym (graph-called job t.stacks.call_limit c below u.0 reg place k.steady.framed e)
      by false true e e' =
          ap (λ (stacks : CallStack). calls_after (probe_of spec.kind (is_full stacks)) stacks.calls user) (sym stacks-are)
          ∙ sym (fprobe-called job t.stacks.call_limit c below u.0 reg place k.steady.framed e')
      by false false e e' =
          sym calls-are ∙ sym (other-called job t.stacks.call_limit c below u.0 reg place k.steady.framed e (no-exit spec.kind e'))

  -- the Miss is next, or what the user's act makes
  miss-moment : (o' : CodeCall) (users : List FrameUser)
      → moment_at o' users (cond (lacks_frame spec.kind now.stacks) (Mark (Missing u)) (act_to u (owed_by o.ctx spec.act)))
      ≡ miss_in (misses_frame job (around c below) u.0) u.0 (act_in (owed_by o.ctx spec.act) u.0)
  miss-moment o' users =
      by (lacks_frame spec.kind now.stacks) (misses_frame job (around c below) u.0)
      (sym (misses-same job t.stacks.call_limit c below u.0 k.steady.framed ∙ ap (λ (stacks : CallStack). has_exit spec.kind && is_full stacks) stacks-are))
    where
      by : (lacks misses : Bool) → lacks ≡ misses
          → moment_at o' users (cond lacks (Mark (Missing u)) (act_to u (owed_by o.ctx spec.act)))
          ≡ miss_in misses u.0 (act_in (owed_by o.ctx spec.act) u.0)
      by true true e = refl
      by false false e = act-moment o' users u (owed_by o.ctx spec.act)
      by true false e = absurd cc
      by false true e = absurd cc

  pub back-row : state_of (code.called_back now spec u reg place)
      ≡ with_top (state_of now) after below (miss_in (misses_frame job (around c below) u.0) u.0 (act_in (owed_by o.ctx spec.act) u.0))
  back-row =
      ap (λ (calls : List StackedCall). state_of (standing t (o' ∷ os) calls next)) left-are
      ∙ ap (λ (p : OpenCall × Moment). with_top (state_of now) p.0 below p.1)
      (λ i. (back-is after framed.bare.0 o' i, miss-moment o' (users_in (stacked after).users) i))
    where
      o' : CodeCall
      o' = record o { runs = runs_after o.runs spec.ipmodify }

      framed : AreFramed job.frames (after ∷ below)
      framed = called-framed job c below u.0 reg place k.steady.framed k.steady.calls.0.found

      next : CodeMoment
      next = cond (lacks_frame spec.kind now.stacks) (Mark (Missing u)) (act_to u (owed_by o.ctx spec.act))
