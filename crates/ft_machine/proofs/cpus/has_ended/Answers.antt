use Rattle.std.proofs.Common.{ap, ◌∙◌}
use Rattle.std.specs.Option.{is_none}
use Rattle.ft_machine.proofs.Ends.{none-mapped, none-told}
use Rattle.ft_machine.proofs.cpus.has_ended.Goals as goal

pub returns : goal.returns
returns c = λ job limited k.
    none-told c.is_none.result c.next.result c.is_none.ensures ∙ ap is_none (c.next.ensures job limited k) ∙ none-mapped _ _
