use Rattle.std.proofs.Common.{[], sym, subst, arith}
use Rattle.word_machine_laws.specs.Led.{with_lines}
use Rattle.control_core.specs.Seated.{IsFor}
use Rattle.control_core.proofs.Led.{withheld-kept, withheld-seen, withheld-starts}
use Rattle.control_core.proofs.control.Control.withhold.Goals as goal

pub invariant_of-self : goal.invariant_of-self
invariant_of-self c =
    let same = c.clear.ensures.capacity in
    withheld-kept c.self.inside c.self.invariant c.args.self.now c.self.view_is c.clear.new.self (omega (arith, same)) c.requires c.clear.ensures.items

pub returns-clause-of : goal.returns-clause-of
returns-clause-of c = λ job plan is.
    subst (IsFor (with_lines job [] plan))
    (sym (withheld-seen c.self.inside c.args.self.now c.self.view_is c.clear.new.self c.clear.ensures.items))
    (withheld-starts job plan c.args.self.now is c.requires).0
