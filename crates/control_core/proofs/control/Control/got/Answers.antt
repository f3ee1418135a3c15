use Rattle.std.proofs.Common.{ap, ◌∙◌, sym, subst}
use Rattle.control_core.specs.Seated.{Seated, IsFor, control_of}
use Rattle.control_core.proofs.Law.{got-law}
use Rattle.control_core.proofs.Marked.{items-law}
use Rattle.control_core.proofs.Stays.{stay}
use Rattle.control_core.proofs.control.Control.got.Goals as goal

pub returns-clause-of : goal.returns-clause-of
returns-clause-of c = λ job is. subst (IsFor job) (sym c.step.ensures) (got-law job c.args.self.now c.keeps.ensures is c.args.value).is_for

pub returns-clause-control : goal.returns-clause-control
returns-clause-control c = λ job is. ap control_of c.step.ensures ∙ (got-law job c.args.self.now c.keeps.ensures is c.args.value).control

pub returns-clause-items : goal.returns-clause-items
returns-clause-items c = λ job is.
    ap (λ (s : Seated). s.items) c.step.ensures ∙ items-law c.args.value c.args.self.now job c.keeps.ensures is

pub returns-clause-all : goal.returns-clause-all
returns-clause-all c = ap (λ (s : Seated). s.all) c.step.ensures ∙ (stay c.args.self.now c.args.value).0

pub returns-clause-order : goal.returns-clause-order
returns-clause-order c = ap (λ (s : Seated). s.order) c.step.ensures ∙ (stay c.args.self.now c.args.value).1
