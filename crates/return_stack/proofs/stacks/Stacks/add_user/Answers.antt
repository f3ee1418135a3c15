use Rattle.return_stack.proofs.StackOps.{on_frame_with_room, stack_with_user, hooks_with_user}
use Rattle.return_stack.proofs.stacks.Stacks.add_user.Goals as goal

pub add_user-requires-clause-frame : goal.add_user-requires-clause-frame
add_user-requires-clause-frame c =
    (on_frame_with_room c.self.inside _ c.self.view_is c.self.invariant.tied c.requires).0.frame

pub add_user-requires-clause-room : goal.add_user-requires-clause-room
add_user-requires-clause-room c =
    (on_frame_with_room c.self.inside _ c.self.view_is c.self.invariant.tied c.requires).1

pub invariant_of-self : goal.invariant_of-self
invariant_of-self c =
    let kept = c.self.invariant in
    record {
      tied = hooks_with_user c.self.inside _ _ kept.tied c.add_user.ensures;
      within = kept.within;
      room = kept.room;
      small = kept.small;
    }

pub returns : goal.returns
returns c =
    stack_with_user c.self.inside _ c.add_user.new.self _ c.self.view_is c.self.invariant.tied
    (on_frame_with_room c.self.inside _ c.self.view_is c.self.invariant.tied c.requires).0 c.add_user.ensures
