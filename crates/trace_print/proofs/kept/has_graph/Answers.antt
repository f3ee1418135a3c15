use Rattle.std.proofs.Common.{List, ap, ◌∙◌}
use Rattle.std.specs.List.{list_any}
use Rattle.ft_base.specs.Job.{Spec}
use Rattle.trace_views.specs.Words.{is_graph}
use Rattle.trace_print.proofs.KeptLaws.{graph-declared}
use Rattle.trace_print.proofs.kept.has_graph.Goals as goal

pub returns : goal.returns
returns c = c.has_graph_user.ensures ∙ graph-declared c.specs.result.now ∙ ap (λ (users : List Spec). list_any (λ user. is_graph user.kind) users) c.specs.ensures
