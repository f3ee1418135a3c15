-- In which context the next step of a task is, by what contracts see of it.
use Rattle.std.specs.Prelude.{Bool, false, not, ◌&&◌, Option, Some, unwrap_or}
use Rattle.ft_base.specs.declared.context.Ctx.{Ctx}
use Rattle.ft_base.specs.declared.task.TaskAct.{TaskAct}
use Rattle.ft_base.specs.declared.task.TaskAct.TheVariants.{Ret as RetAct}
use Rattle.ft_base.specs.Same.{context}
use Rattle.word_machine.specs.Task.{masks_interrupts}
use Rattle.task_core.specs.declared.moment.Moment.{Moment}
use Rattle.task_core.specs.declared.moment.Moment.TheVariants.{Polling, First, Mark}
use Rattle.task_core.specs.declared.moment.ToMark.TheVariants.{Acting}
use Rattle.task_core.specs.declared.task.Task.{Task}
use Rattle.task_core.specs.Leads.{is_fetching}
use Rattle.task_core.specs.Opens.{latest_ctx}
use Rattle.task_core.specs.TaskOps.{present}

-- the context of the latest call; without a call the present one
abbrev pub call_context : Task → Ctx
call_context t = unwrap_or (latest_ctx t.opens.calls) (context t.guards.raised)

-- the context of the step that begins an act
abbrev pub act_context : Task → Option TaskAct → Ctx
act_context t (Some RetAct) = call_context t
act_context t _ = context t.guards.raised

-- requests can be answered before this step: it is none of a poll and not the second load of a fetch, and interrupts are on
abbrev pub open_at : Task → Moment → Bool
open_at t Polling = false
open_at t First = not (masks_interrupts (act_context t (present t)))
open_at t (Mark (Acting u f x)) = not (masks_interrupts x)
open_at t m = not (is_fetching m) && not (masks_interrupts (call_context t))

-- the same before the task's next step
abbrev pub is_open_to_requests : Task → Bool
is_open_to_requests t = open_at t t.moment
