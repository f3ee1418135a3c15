use Rattle.trace_views.specs.OpenCalls.{stacks_in}
use Rattle.trace_views.specs.TaskStacks.{stack_at}
use Rattle.trace_views.proofs.FollowLaws.{back-open, some-open}
use Rattle.trace_views.proofs.FunctionLines.{back-line}
use Rattle.trace_views.proofs.function.back_line.Goals as goal

pub top-top-requires : goal.top-top-requires
top-top-requires c =
    some-open (stack_at (stacks_in c.args.stacks.now) c.args.call.task.0) _ (back-open c.requires.0 c.requires.1 c.args.stacks.now c.requires.2 c.args.call c.args.user c.requires.3)

pub returns-clause-text : goal.returns-clause-text
returns-clause-text c = λ job past told legal long.
    back-line job past c.args.call c.args.user (stacks_in c.args.stacks.now) told.stacks legal c.top-top.result c.top-top.ensures c.parent.result c.parent.ensures c.args.place long
