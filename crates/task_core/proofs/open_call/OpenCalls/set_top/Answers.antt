use Rattle.std.proofs.Common.{◌-◌, arith}
use Rattle.task_core.proofs.Reversed.{length-calls, replaced}
use Rattle.task_core.proofs.open_call.OpenCalls.set_top.Goals as goal

pub returns : goal.returns
returns c =
    let l = length-calls c.self.inside _ c.self.view_is in
    replaced c.self.inside _ (c.len-top.result - 1) c.args.call c.self.view_is (omega (arith, l, c.requires, c.len-top.ensures))
