use Rattle.ft_schedule.proofs.GrammarLemmas.{item_of-written, item_of-rule}
use Rattle.ft_schedule.proofs.laws.grammar_gives_the_item.Goals as goal

pub returns : goal.returns
returns c = λ word item. (item_of-written, item_of-rule word item)
