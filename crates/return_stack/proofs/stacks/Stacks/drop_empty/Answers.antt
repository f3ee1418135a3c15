use Rattle.std.proofs.Common.{sym, ◌∙◌, arith}
use Rattle.return_stack.proofs.StackOps.{on_frame, stack_dropped, hooks_dropped, unused_at, used_stays, unhooked_stays}
use Rattle.return_stack.proofs.stacks.Stacks.drop_empty.Goals as goal
use Rattle.return_stack.proofs.stacks.Stacks.drop_empty.Goals.{else-has_frame-via-then-has_frame+else-has_no_users, else-has_frame-via-else-has_frame}

pub has_no_users-requires : goal.has_no_users-requires
has_no_users-requires c =
    (on_frame c.self.inside _ c.self.view_is c.self.invariant.tied (sym c.has_frame.ensures ∙ c.if-has_frame.true)).frame

pub pop-requires : goal.pop-requires
pop-requires c =
    (on_frame c.self.inside _ c.self.view_is c.self.invariant.tied (sym c.has_frame.ensures ∙ c.if-has_frame.true)).frame

pub invariant_of-self : goal.invariant_of-self
invariant_of-self c =
    let kept = c.self.invariant in
    let unused = unused_at c.self.inside _ c.len-top.result c.self.view_is kept.tied (omega (arith, c.len-top.ensures, c.self.inside.addresses.ok.0)) c.requires
    (sym c.has_frame.ensures ∙ c.if-has_frame.true) (sym c.has_no_users.ensures ∙ c.if-has_no_users.true) in
    record {
      tied = hooks_dropped c.self.inside _ c.pop.new.self _ _ c.self.view_is kept.tied unused c.pop.ensures.to c.pop.ensures.frames;
      within = kept.within;
      room = kept.room;
      small = kept.small;
    }

pub returns-then-has_no_users : goal.returns-then-has_no_users
returns-then-has_no_users c =
    let tied = c.self.invariant.tied in
    let unused = unused_at c.self.inside _ c.len-top.result c.self.view_is tied (omega (arith, c.len-top.ensures, c.self.inside.addresses.ok.0)) c.requires
    (sym c.has_frame.ensures ∙ c.if-has_frame.true) (sym c.has_no_users.ensures ∙ c.if-has_no_users.true) in
    stack_dropped c.self.inside _ _ _ _ c.self.view_is tied unused c.pop.ensures.to c.pop.ensures.frames c.pop.ensures.limit

pub returns-else-has_frame : goal.returns-else-has_frame
returns-else-has_frame c =
    elim c.else-has_frame.branch [
      | else-has_frame-via-then-has_frame+else-has_no_users w ↦
          used_stays c.self.inside _ c.self.view_is c.self.invariant.tied (sym c.has_frame.ensures ∙ w.if-has_frame.true) (sym w.has_no_users.ensures ∙ w.if-has_no_users.false)
      | else-has_frame-via-else-has_frame w ↦ unhooked_stays c.args.self.now (sym c.has_frame.ensures ∙ w.if-has_frame.false)
    ]
