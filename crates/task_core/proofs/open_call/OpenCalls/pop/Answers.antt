use Rattle.std.proofs.Common.{arith}
use Rattle.task_core.proofs.Reversed.{length-calls, popped}
use Rattle.task_core.proofs.open_call.OpenCalls.pop.Goals as goal

pub returns : goal.returns
returns c =
    let l = length-calls c.self.inside _ c.self.view_is in
    popped c.self.inside _ _ _ c.self.view_is (omega (arith, l, c.requires, c.len.ensures)) c.truncate.ensures.items
