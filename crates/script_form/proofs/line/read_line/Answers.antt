use Rattle.script_text.specs.Lines.{words_of}
use Rattle.script_form.proofs.FormNames.{read-well-named}
use Rattle.script_form.proofs.line.read_line.Goals as goal

pub returns-in-Some-clause-names : goal.returns-in-Some-clause-names
returns-in-Some-clause-names c = read-well-named (words_of c.in-Some.text.now) c.read_text.result c.read_text.ensures
