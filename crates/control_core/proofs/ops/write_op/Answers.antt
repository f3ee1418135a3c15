use Rattle.std.proofs.Common.{ap, ◌∙◌}
use Rattle.std.specs.Prelude.{option_map}
use Rattle.word_map.specs.Ops.{placed}
use Rattle.ft_desk.specs.Plans.{PlainPlan}
use Rattle.control_core.proofs.Nexts.{write-is}
use Rattle.control_core.proofs.ops.write_op.Goals as goal

pub returns : goal.returns
returns c =
    c.next.ensures.store
    ∙ ap (option_map (placed c.args.writer.now.shape))
    (write-is c.args.desk.now c.args.writer.now c.in_ok-last.field-0 c.pair.result.now c.last.result.now.user
    (ap (λ (p : PlainPlan). p.user) c.last.ensures) c.in_ok-last.was c.pair.ensures.filter c.pair.ensures.notrace)
