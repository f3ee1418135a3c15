use Rattle.std.proofs.Common.{length, sym, ap, ◌∙◌}
use Rattle.state_search.proofs.Steps.{table-length}
use Rattle.state_search.proofs.states.States.len.Goals as goal

pub returns : goal.returns
returns c = c.len.ensures.count ∙ sym (table-length c.self.inside.table) ∙ ap length c.self.view_is
