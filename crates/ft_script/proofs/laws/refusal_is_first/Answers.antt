use Rattle.script_text.specs.Lines.{lines_of}
use Rattle.ft_script.specs.Above.{none_above}
use Rattle.ft_script.proofs.Offence.{first_offence, first_refused}
use Rattle.ft_script.proofs.laws.refusal_is_first.Goals as goal

pub returns : goal.returns
returns c = λ text fault. (first_offence none_above (lines_of text) fault, first_refused none_above (lines_of text) fault)
