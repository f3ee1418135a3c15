use Rattle.script_form.proofs.GrammarForms.{form_of-written}
use Rattle.script_form.proofs.GrammarRules.{form_of-rule}
use Rattle.script_form.proofs.laws.grammar_gives_the_form.Goals as goal

pub returns : goal.returns
returns c = λ words form. (form_of-written words form, form_of-rule form words)
