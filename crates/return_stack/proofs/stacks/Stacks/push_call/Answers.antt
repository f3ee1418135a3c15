use Rattle.std.proofs.Common.{arith}
use Rattle.return_stack.proofs.StackLemmas.{length-calls, call_limit_is}
use Rattle.return_stack.proofs.StackOps.{hooks_by_push}
use Rattle.return_stack.proofs.stacks.Stacks.push_call.Goals as goal

pub push_reserved-requires : goal.push_reserved-requires
push_reserved-requires c =
    let kept = c.self.invariant in
    omega (arith, length-calls c.self.inside _ c.self.view_is kept.tied, call_limit_is c.self.inside _ c.self.view_is, c.self.inside.addresses.ok.0)

pub invariant_of-self : goal.invariant_of-self
invariant_of-self c =
    let kept = c.self.invariant in
    record {
      tied = hooks_by_push c.self.inside.addresses.items _ c.self.inside.running c.args.call _ c.push_reserved.ensures.items kept.tied;
      within = omega (arith, c.push_reserved.ensures.len, length-calls c.self.inside _ c.self.view_is kept.tied, call_limit_is c.self.inside _ c.self.view_is, c.self.inside.addresses.ok.0);
      room = omega (arith, c.push_reserved.ensures.capacity, kept.room);
      small = kept.small;
    }
