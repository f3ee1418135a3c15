use Rattle.std.proofs.Common.{◌≡◌, ap, sym, ◌∙◌}
use Rattle.ft_base.specs.Job.{Job}
use Rattle.ft_base.specs.Desk.{Desk, desk}
use Rattle.ft_desk.specs.Sites.{row_at}
use Rattle.trace_print.proofs.forms.lines_of_desk.Goals as goal

pub enabled_lines-requires-clause-rows : goal.enabled_lines-requires-clause-rows
enabled_lines-requires-clause-rows c = λ f.
    c.in_ok-desk.ensures.rows f
    ∙ ap (λ (j : Job). row_at j (desk j c.args.returned) f) c.job.ensures
    ∙ sym (ap (λ (d : Desk). row_at c.args.names.now d f) (c.in_ok-desk.ensures.state ∙ ap (λ (j : Job). desk j c.args.returned) c.job.ensures))

pub returns : goal.returns
returns c =
    let s : c.in_ok-desk.desk.state ≡ desk c.args.names.now c.args.returned =
    c.in_ok-desk.ensures.state ∙ ap (λ (j : Job). desk j c.args.returned) c.job.ensures in
    rw (← s) c.enabled_lines.ensures
