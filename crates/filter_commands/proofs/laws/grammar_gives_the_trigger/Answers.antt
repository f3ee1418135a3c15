use Rattle.filter_commands.proofs.TriggerLemmas.{HasTrigger-form}
use Rattle.filter_commands.proofs.laws.grammar_gives_the_trigger.Goals as goal

pub returns : goal.returns
returns c = HasTrigger-form
