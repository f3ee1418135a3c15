use Rattle.ft_schedule.specs.Bulk.{task_part}
use Rattle.ft_schedule.proofs.Parts.{text-none, text-more, state-none, state-more}
use Rattle.ft_schedule.proofs.bulk.push_tasks.Goals as goal

pub loop-task-init : goal.loop-task-init
loop-task-init c = record { text = text-none task_part _ _; state = state-none task_part _ }

pub loop-task-preserved : goal.loop-task-preserved
loop-task-preserved c = record {
  text = text-more task_part _ _ _ _ _ _ c.loop-task.invariant.text c.loop-task.invariant.state c.in_ok-push_task.ensures.text;
  state = state-more task_part _ _ _ _ c.loop-task.invariant.state c.in_ok-push_task.ensures.state;
}
