use Rattle.std.proofs.Common.{arith}
use Rattle.return_stack.proofs.ShadowLemmas.{length-frames, limit_is, filled_by_push}
use Rattle.return_stack.proofs.shadow.ShadowStack.push.Goals as goal

pub push_reserved-requires : goal.push_reserved-requires
push_reserved-requires c =
    let kept = c.self.invariant in
    omega (arith, length-frames c.self.inside _ c.self.view_is, limit_is c.self.inside _ c.self.view_is, c.self.inside.frames.ok.0)

pub invariant_of-self : goal.invariant_of-self
invariant_of-self c =
    let kept = c.self.invariant in
    record {
      filled = filled_by_push c.self.inside.frames.items _ c.self.inside.users.items _ c.push_reserved.ensures.items
          (omega (arith, c.len-first_user.ensures, c.self.inside.users.ok.0)) kept.filled;
      within = omega (arith, c.push_reserved.ensures.len, length-frames c.self.inside _ c.self.view_is, limit_is c.self.inside _ c.self.view_is, c.self.inside.frames.ok.0);
      small = kept.small;
      frame_room = omega (arith, c.push_reserved.ensures.capacity, kept.frame_room);
      user_room = kept.user_room;
    }
