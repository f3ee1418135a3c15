use Rattle.std.proofs.Common.{◌≡◌, ◌∙◌, List, [], ◌∷◌, length, refl, arith}
use Rattle.module_coverage.specs.declared.span.Entered.{Entered}
use Rattle.module_coverage.specs.Spans.{waits_in, commands_to}
use Rattle.module_coverage.proofs.Steps.{finds-left, finds-lone}
use Rattle.module_coverage.proofs.walk.Walk.leave.Goals as goal

pub returns-in_ok-push-clause-finds : goal.returns-in_ok-push-clause-finds
returns-in_ok-push-clause-finds c = λ a next leads line rest s.
    let place = c.until-self.ensures in
    let number = c.args.number in
    let end : commands_to c.args.task number 0 (waits_in c.args.control.now) ≡ c.until-self.result.commands = leads number (omega (arith, next)) ∙ place.passes number (omega arith) ∙ place.stops in
    finds-left c.args.control.now c.args.task a number c.until-self.result.commands c.args.self.now.from line c.args.self.now.entered.items c.pop.new.self.items c.in-Some.call c.span_to.result rest s
    c.args.self.now.spans.items c.push.new.self.items next end c.in-Some.ensures.items c.span_to.ensures c.in_ok-push.ensures.items

no-entries : (xs : List Entered) → length xs ≡ 0 → xs ≡ []
no-entries [] e = refl
no-entries (x ∷ xs) e = absurd (omega (arith, e))

pub returns-in_default-clause-finds : goal.returns-in_default-clause-finds
returns-in_default-clause-finds c = λ a next leads line rest s.
    let empty = rw c.in_default.is at c.pop.ensures.cases in
    finds-lone c.args.control.now c.args.task a c.args.number c.args.self.now.from line c.args.self.now.entered.items c.pop.new.self.items rest s c.args.self.now.spans.items next
    (no-entries c.args.self.now.entered.items (omega (arith, empty.0, c.args.self.now.entered.ok.0)))
    (no-entries c.pop.new.self.items (omega (arith, empty.1, c.pop.new.self.ok.0)))
