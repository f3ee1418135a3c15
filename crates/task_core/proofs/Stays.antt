-- A task of a job stays one when its operation gives a value.
use Rattle.std.proofs.Common.{◌≡◌, ℕ, ◌-◌, ◌*◌, false, sym, subst}
use Rattle.ft_base.specs.Job.{Job}
use Rattle.ft_base.specs.Versions.{levels}
use Rattle.word_machine.specs.Laws.{PresentTakes}
use Rattle.word_machine.specs.Limits.{IsLimited}
use Rattle.task_core.specs.declared.task.Task.{Task}
use Rattle.task_core.specs.Setups.{setup_in}
use Rattle.task_core.specs.States.{is_polling, state_of}
use Rattle.task_core.specs.TaskInvariant.{HasCallRoom, TaskInvariant}
use Rattle.task_core.specs.TaskSteps.{task_after}
use Rattle.task_core.specs.StackInvariant.{IsTaskOf}
use Rattle.task_core.proofs.FrameRoom.{few-got}
use Rattle.task_core.proofs.GuardLaw.{held-got, raised-got}
use Rattle.task_core.proofs.Rows.{step-is}
use Rattle.task_core.proofs.InvariantLaw.{room-got, invariant-got}
use Rattle.task_core.proofs.TaskNumbers.{IsSameTask, got-same}
use Rattle.task_core.proofs.StackLaw.{acts-same, frames-same, gone-got, levels-same, limits-same, moment-got, nested-same, number-same, stack-got}

module _ (job : Job) (t : Task) (v : ℕ) (limited : IsLimited job) (k : IsTaskOf job t) (e : is_polling t.moment ≡ false)
    (takes : PresentTakes job (state_of t) (state_of t).moment v) where
  abbrev pub after : Task
  after = task_after t (setup_in job) v

  same : IsSameTask t after
  same = got-same t (setup_in job) v

  room : HasCallRoom (after.opens.limit - 2 * levels job) (state_of after)
  room =
      subst (λ n. HasCallRoom (n - 2 * levels job) (state_of after)) (sym same.opens)
      (subst (HasCallRoom (t.opens.limit - 2 * levels job)) (sym (step-is job t v limited k e))
      (room-got job (t.opens.limit - 2 * levels job) limited.job'.acts t.number.0 v (state_of t) k.steady k.room takes))

  steady : TaskInvariant job (state_of after)
  steady = subst (TaskInvariant job) (sym (step-is job t v limited k e)) (invariant-got job limited.job'.acts t.number.0 v (state_of t) k.steady takes)

  pub stays-of : IsTaskOf job after
  stays-of = record {
    number = number-same job t after k same;
    acts = acts-same job t after k same;
    gone = gone-got job t k v e;
    frames = frames-same job t after k same;
    limits = limits-same job t after k same;
    nested = nested-same job t after k same;
    room = room;
    tied = stack-got job t k v;
    moment = moment-got job t k v;
    levels' = levels-same job t after k same;
    held = held-got job (setup_in job) v t k e;
    raised = raised-got job (setup_in job) v t k e;
    few = few-got job limited (setup_in job) v t k takes;
    steady = steady;
  }
