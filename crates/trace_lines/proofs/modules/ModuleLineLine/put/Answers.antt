use Rattle.std.proofs.Common.{◌∙◌}
use Rattle.ft_io.proofs.PieceLaws.{puts-then, puts-equal}
use Rattle.trace_views.specs.ModulesText.{row_of_line}
use Rattle.trace_lines.proofs.ModuleLines.{module_line-said}
use Rattle.trace_lines.proofs.modules.ModuleLineLine.put.Goals as goal

pub returns : goal.returns
returns g c = puts-equal (module_line-said (g.N.Named.job c.args.names.now) (row_of_line c.args.self.now))
    (puts-then (puts-equal (c.as_bytes.ensures.value ∙ c.load_name.ensures) c.put.ensures)
    (puts-then c.put-2.ensures
    (puts-then (puts-equal (c.as_bytes-2.ensures.value ∙ c.module.ensures) c.put-3.ensures)
    (puts-then c.put-4.ensures (puts-then c.put_answer.ensures (puts-then c.put-5.ensures
    (puts-then c.put_number.ensures (puts-then c.put-6.ensures (puts-then c.put_number-2.ensures c.put-7.ensures)))))))))
