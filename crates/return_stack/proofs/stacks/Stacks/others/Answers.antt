use Rattle.std.proofs.Common.{arith}
use Rattle.return_stack.proofs.StackOps.{frames_in-calls, frames_in-below}
use Rattle.return_stack.proofs.stacks.Stacks.others.Goals as goal

pub overflow_sub-result : goal.overflow_sub-result
overflow_sub-result c =
    let n = frames_in-calls c.self.inside _ c.self.view_is c.self.invariant.tied in
    let k = frames_in-below c.args.self.now.calls c.has_frame.result c.from.result c.has_frame.ensures c.from.ensures in
    omega (arith, c.len.ensures.frames)

pub returns-clause-frames : goal.returns-clause-frames
returns-clause-frames c =
    let n = frames_in-calls c.self.inside _ c.self.view_is c.self.invariant.tied in
    let k = frames_in-below c.args.self.now.calls c.has_frame.result c.from.result c.has_frame.ensures c.from.ensures in
    omega (arith, c.len.ensures.frames)
