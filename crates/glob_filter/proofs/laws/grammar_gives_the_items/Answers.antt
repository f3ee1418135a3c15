use Rattle.glob_filter.proofs.GrammarLemmas.{HasItems-items}
use Rattle.glob_filter.proofs.laws.grammar_gives_the_items.Goals as goal

pub returns : goal.returns
returns c = HasItems-items
