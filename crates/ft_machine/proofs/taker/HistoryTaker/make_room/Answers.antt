use Rattle.std.proofs.Common.{List, ap, reverse, ◌∙◌}
use Rattle.ft_base.specs.declared.item.Item.{Item}
use Rattle.ft_machine.proofs.taker.HistoryTaker.make_room.Goals as goal

pub returns-clause-took : goal.returns-clause-took
returns-clause-took c = λ job past first took. ap (λ (xs : List Item). reverse xs) c.make_room.ensures.items ∙ took
