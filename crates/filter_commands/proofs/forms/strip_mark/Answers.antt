use Rattle.std.proofs.Common.{sym, arith, None}
use Rattle.std.proofs.lemmas.Str.Pattern.{strip_prefix_char}
use Rattle.filter_commands.proofs.TextLemmas.{unmarked-other}
use Rattle.filter_commands.proofs.forms.strip_mark.Goals as goal

pub returns-in-None : goal.returns-in-None
returns-in-None c = sym (unmarked-other c.args.text.now (strip_prefix_char 33 c.args.text.now None c.in-None.ensures.cases (omega arith)))
