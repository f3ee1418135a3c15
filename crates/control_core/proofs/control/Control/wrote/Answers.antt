use Rattle.std.proofs.Common.{true, false, ◌∙◌}
use Rattle.word_map.specs.Ops.{placed}
use Rattle.control_core.specs.declared.phase.Phase.TheVariants as phase
use Rattle.control_core.specs.Steps.{write_next}
use Rattle.control_core.proofs.ControlFields.{page-go, phase-seen}
use Rattle.control_core.proofs.Pages.{test-is, wrote-last, wrote-more}
use Rattle.control_core.proofs.control.Control.wrote.Goals as goal

pub invariant_of-self : goal.invariant_of-self
invariant_of-self c =
    let at' = phase-seen c.self.inside c.args.self.now (phase.Writing c.args.writer) c.self.view_is c.requires.phase in
    page-go c.self.inside c.args.writer c.did.new.self c.self.invariant at' c.did.ensures
    (test-is c.write_op.result (write_next c.self.inside.desk.state c.did.new.self c.self.inside.desk.plan.user) (placed c.did.new.self.shape)
    c.is_some.result true c.is_some.ensures c.if-is_some.true c.write_op.ensures)

pub returns-then-is_some : goal.returns-then-is_some
returns-then-is_some c =
    wrote-more c.self.inside c.args.self.now c.args.writer c.did.new.self c.self.view_is c.did.ensures
    (test-is c.write_op.result (write_next c.self.inside.desk.state c.did.new.self c.self.inside.desk.plan.user) (placed c.did.new.self.shape)
    c.is_some.result true c.is_some.ensures c.if-is_some.true c.write_op.ensures)

pub returns-else-is_some : goal.returns-else-is_some
returns-else-is_some c =
    c.list.ensures
    ∙ wrote-last c.self.inside c.args.self.now c.args.writer c.did.new.self c.self.view_is c.did.ensures
    (test-is c.write_op.result (write_next c.self.inside.desk.state c.did.new.self c.self.inside.desk.plan.user) (placed c.did.new.self.shape)
    c.is_some.result false c.is_some.ensures c.if-is_some.false c.write_op.ensures)
