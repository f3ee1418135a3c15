use Rattle.std.proofs.Common.{arith}
use Rattle.return_stack.proofs.ShadowLemmas.{is_full_at, room_at}
use Rattle.return_stack.proofs.shadow.ShadowStack.is_full.Goals as goal

pub returns-clause-full : goal.returns-clause-full
returns-clause-full c =
    is_full_at c.self.inside _ c.len.result c.self.view_is (omega (arith, c.len.ensures, c.self.inside.frames.ok.0))

pub returns-clause-room : goal.returns-clause-room
returns-clause-room c =
    let kept = c.self.invariant in
    room_at c.self.inside _ c.len.result c.self.view_is (omega (arith, c.len.ensures, c.self.inside.frames.ok.0)) (omega (arith, c.len.ensures))
