use Rattle.std.proofs.Common.{arith}
use Rattle.return_stack.proofs.ShadowLemmas.{length-frames}
use Rattle.return_stack.proofs.shadow.ShadowStack.len.Goals as goal

pub returns-clause-frames : goal.returns-clause-frames
returns-clause-frames c =
    omega (arith, length-frames c.self.inside _ c.self.view_is, c.self.inside.frames.ok.0)
