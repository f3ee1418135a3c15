use Rattle.std.proofs.Common.{arith}
use Rattle.return_stack.proofs.StackLemmas.{length-calls}
use Rattle.return_stack.proofs.stacks.Stacks.calls.Goals as goal

pub returns : goal.returns
returns c =
    omega (arith, length-calls c.self.inside _ c.self.view_is c.self.invariant.tied, c.self.inside.addresses.ok.0)
