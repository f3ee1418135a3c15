use Rattle.std.proofs.Common.{sym}
use Rattle.script_text.proofs.LineLemmas.{lines_of-found, lines_of-not_found}
use Rattle.script_text.proofs.lines.first_line.Goals as goal

pub returns-in-Some-clause-cut : goal.returns-in-Some-clause-cut
returns-in-Some-clause-cut c = lines_of-found c.args.text.now c.in-Some.end (sym c.in-Some.ensures)

pub returns-in-None-clause-cut : goal.returns-in-None-clause-cut
returns-in-None-clause-cut c = lines_of-not_found c.args.text.now c.requires (sym c.in-None.ensures)
