use Rattle.std.proofs.Common.{sym, ◌∙◌, ap, Option, List, slice_get}
use Rattle.std.specs.Option.{option_and_then}
use Rattle.return_stack.specs.declared.shadow.FrameUser.{FrameUser}
use Rattle.return_stack.proofs.StackOps.{on_frame}
use Rattle.return_stack.proofs.stacks.Stacks.frame_user.Goals as goal

pub user-requires : goal.user-requires
user-requires c =
    (on_frame c.self.inside _ c.self.view_is c.self.invariant.tied (sym c.has_frame.ensures ∙ c.if-has_frame.true)).frame

pub returns-then-has_frame : goal.returns-then-has_frame
returns-then-has_frame c =
    let on = on_frame c.self.inside _ c.self.view_is c.self.invariant.tied (sym c.has_frame.ensures ∙ c.if-has_frame.true) in
    c.user.ensures ∙ ap (λ (users : Option (List FrameUser)). option_and_then (λ us. slice_get us c.args.i) users) (sym on.users)
