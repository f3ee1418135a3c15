use Rattle.std.proofs.Common.{◌∙◌, sym, ap, codes, ◌++◌, List, ℕ, Some, None}
use Rattle.std.specs.Prelude.{Option, option_map}
use Rattle.ft_base.specs.Job.{Job, ModuleRow}
use Rattle.ft_io.proofs.PieceLaws.{puts-then, puts-equal}
use Rattle.trace_views.specs.Words.{Word}
use Rattle.told_items.specs.Fields.{quoted}
use Rattle.told_facts.specs.Values.{or_null}
use Rattle.told_facts.specs.Commands.{answer_text}
use Rattle.told_facts.proofs.Controls.{line-answer-is}
use Rattle.told_facts.proofs.commands.put_line_answer.Goals as goal

pub returns-in-Some : goal.returns-in-Some
returns-in-Some g c =
    let job = c.args.names.now in
    puts-equal (ap (λ (a : Option Word). codes ", \"line_answer\": " ++ or_null quoted a)
    (line-answer-is job c.args.k c.modules.result.now (Some c.in-Some.answer) (c.modules.ensures ∙ ap (λ (j : Job). j.lines.modules) c.job.ensures) (sym c.in-Some.is ∙ c.answer_at_end.ensures)))
    (puts-then c.put.ensures (puts-then c.put_answer.ensures c.put-in-Some.ensures))

pub returns-in-None : goal.returns-in-None
returns-in-None g c =
    let job = c.args.names.now in
    puts-equal (ap (λ (a : Option Word). codes ", \"line_answer\": " ++ or_null quoted a)
    (line-answer-is job c.args.k c.modules.result.now None (c.modules.ensures ∙ ap (λ (j : Job). j.lines.modules) c.job.ensures) (sym c.in-None.is ∙ c.answer_at_end.ensures)))
    c.put-in-None.ensures
