use Rattle.std.proofs.Common.{Some, sym, ap, ◌∙◌}
use Rattle.ft_desk.specs.declared.command.Ctl.TheVariants.{Until}
use Rattle.control_core.specs.Lines.{IsTaskIn}
use Rattle.control_core.proofs.Picked.{picked-each}
use Rattle.control_core.proofs.ops.line_op.Goals as goal

pub quiet-requires : goal.quiet-requires
quiet-requires c =
    picked-each (IsTaskIn c.args.map.now.tasks) c.args.lines.now c.args.order.now c.args.line (Until c.in-Until.task c.in-Until.acts)
    c.requires.lines (sym (c.in_ok-task.ensures {u = tt}).line ∙ ap Some c.in-Until.is)
