use Rattle.std.proofs.Common.{arith}
use Rattle.std.proofs.lemmas.List.{length-reverse}
use Rattle.return_stack.proofs.FrameLemmas.{users_below}
use Rattle.return_stack.proofs.ShadowLemmas.{on_latest, filled_by_user, shadow_with_user}
use Rattle.return_stack.proofs.shadow.ShadowStack.add_user.Goals as goal

pub push_reserved-requires : goal.push_reserved-requires
push_reserved-requires c =
    let kept = c.self.invariant in
    let has = on_latest c.self.inside _ c.self.view_is kept.filled c.requires.frame c.requires.room in
    omega (arith, users_below _ _ has.filled has.frame has.room, length-reverse c.self.inside.frames.items, c.self.inside.frames.ok.0, c.self.inside.users.ok.0)

pub invariant_of-self : goal.invariant_of-self
invariant_of-self c =
    let kept = c.self.invariant in
    record {
      filled = filled_by_user _ _ _ _ c.push_reserved.ensures.items
          (on_latest c.self.inside _ c.self.view_is kept.filled c.requires.frame c.requires.room);
      within = kept.within;
      small = kept.small;
      frame_room = kept.frame_room;
      user_room = omega (arith, c.push_reserved.ensures.capacity, kept.user_room);
    }

pub returns : goal.returns
returns c =
    shadow_with_user c.self.inside _ c.push_reserved.new.self c.args.user c.self.view_is
    (on_latest c.self.inside _ c.self.view_is c.self.invariant.filled c.requires.frame c.requires.room) c.push_reserved.ensures.items
