use Rattle.std.proofs.Common.{sym, ◌∙◌, ap}
use Rattle.return_stack.specs.declared.stacks.Address.{Address}
use Rattle.return_stack.proofs.AddressLemmas.{true_address}
use Rattle.return_stack.proofs.StackOps.{caller_is}
use Rattle.return_stack.proofs.stacks.Stacks.pop_return.Goals as goal
use Rattle.return_stack.proofs.stacks.Stacks.pop_return.Goals.{in-To, in-Hook}

pub returns-clause-caller : goal.returns-clause-caller
returns-clause-caller c =
    let caller = caller_is c.self.inside c.args.self.now c.pop.new.self.items c.in_ok-address.address c.self.view_is c.self.invariant.tied c.in_ok-address.ensures.items in
    elim c.match-address.branch [
      | in-To w ↦ w.self-is ∙ (sym (ap (λ (x : Address). true_address x c.self.inside.shadow.frames) w.in-To.is) ∙ sym caller)
      | in-Hook w ↦ w.self-is ∙ (w.pop-self-inside.ensures.to ∙ (sym (ap (λ (x : Address). true_address x c.self.inside.shadow.frames) w.in-Hook.is) ∙ sym caller))
    ]
