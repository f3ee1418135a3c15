-- A task that isn't before a poll has an act left, and within a call it has a call.
use Rattle.std.proofs.Common.{◌≡◌, ℕ, zero, suc, ◌<◌, true, false, List, [], ◌∷◌, drop, length, refl, sym, ap, subst, ◌∙◌, arith}
use Rattle.ft_base.specs.declared.task.TaskAct.{TaskAct}
use Rattle.ft_base.specs.Job.{Job}
use Rattle.ft_base.specs.Tasks.{has_acts}
use Rattle.ft_base.proofs.Small.{false_true}
use Rattle.ft_hist.specs.Frames.{FrameUser}
use Rattle.return_stack.specs.Calls.{top_users}
use Rattle.word_machine.specs.Task.{OpenCall, is_quiet as is_machine_quiet}
use Rattle.word_machine.specs.Tasks.{FirstAt, IsToDo, StandsIn}
use Rattle.task_core.specs.declared.moment.Moment.{Moment}
use Rattle.task_core.specs.declared.moment.Moment.TheVariants.{Polling, First, Load, Mark}
use Rattle.task_core.specs.declared.open_call.OpenCall.{OpenCall as CodeCall}
use Rattle.task_core.specs.declared.task.Task.{Task}
use Rattle.task_core.specs.Leads.{is_quiet}
use Rattle.task_core.specs.States.{is_polling, moment_at, stack_of, state_of, users_in}
use Rattle.task_core.specs.TaskOps.{top}
use Rattle.task_core.specs.StackInvariant.{IsTaskOf}
use Rattle.task_core.proofs.RowMoments.{load-loud, mark-loud}

-- ## quiet points are those of the machine

pub quiet-is : (o : CodeCall) (users : List FrameUser) (m : Moment) → is_machine_quiet (moment_at o users m) ≡ is_quiet m
quiet-is o users Polling = refl
quiet-is o users First = refl
quiet-is o users (Load load) = load-loud o users load
quiet-is o users (Mark mark) = mark-loud users mark

-- ## an act is left

pub has-left : (n : ℕ) (acts : List TaskAct) → has_acts (drop n acts) ≡ true → n < length acts
has-left zero [] e = false_true e
has-left (suc n) [] e = false_true e
has-left zero (a ∷ acts) e = omega arith
has-left (suc n) (a ∷ acts) e = let lt : n < length acts = has-left n acts e in omega arith

to-do-left : (acts : List TaskAct) → IsToDo acts → has_acts acts ≡ true
to-do-left [] k = absurd k
to-do-left (a ∷ rest) k = refl

opened : (acts : List TaskAct) (stack : List OpenCall) → StandsIn false acts stack → 0 < length stack
opened acts [] k = false_true k.1
opened acts (c ∷ below) k = omega arith

module _ (job : Job) (t : Task) (k : IsTaskOf job t) where
  -- the users of the top call's frame
  abbrev users : List FrameUser
  users = users_in (top_users t.stacks.calls)

  -- within a call
  stands : is_quiet t.moment ≡ false → StandsIn false (state_of t).acts (stack_of t)
  stands loud = subst (λ b. StandsIn b (state_of t).acts (stack_of t)) (quiet-is (top t) users t.moment ∙ loud) k.steady.stands

  pub call-open : is_quiet t.moment ≡ false → 0 < length (stack_of t)
  call-open loud = opened (state_of t).acts (stack_of t) (stands loud)

  loud-left : is_quiet t.moment ≡ false → t.acts.gone < length t.acts.all
  loud-left loud = has-left t.acts.gone t.acts.all (stands loud).0

  pub act-left : is_polling t.moment ≡ false → t.acts.gone < length t.acts.all
  act-left = by t.moment refl
    where
      by : (m : Moment) → t.moment ≡ m → is_polling m ≡ false → t.acts.gone < length t.acts.all
      by Polling e p = false_true (sym p)
      by First e p =
          has-left t.acts.gone t.acts.all (to-do-left (state_of t).acts (subst (λ m. FirstAt (moment_at (top t) users m) (state_of t).acts) e k.steady.first))
      by (Load load) e p = loud-left (ap is_quiet e)
      by (Mark mark) e p = loud-left (ap is_quiet e)
