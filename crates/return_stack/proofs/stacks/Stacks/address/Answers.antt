use Rattle.std.proofs.Common.{arith, sym, ◌∙◌}
use Rattle.return_stack.proofs.StackLemmas.{length-calls, address_of-up_to}
use Rattle.return_stack.proofs.stacks.Stacks.address.Goals as goal

pub index-requires : goal.index-requires
index-requires c =
    omega (arith, length-calls c.self.inside _ c.self.view_is c.self.invariant.tied, c.self.inside.addresses.ok.0)

pub returns : goal.returns
returns c =
    c.index.ensures ∙ sym (address_of-up_to c.self.inside _ c.args.i _ c.self.view_is c.self.invariant.tied
    (omega (arith, length-calls c.self.inside _ c.self.view_is c.self.invariant.tied)))
