use Rattle.filter_commands.proofs.GrammarLemmas.{HasForm-form}
use Rattle.filter_commands.proofs.laws.grammar_gives_the_form.Goals as goal

pub returns : goal.returns
returns c = HasForm-form
