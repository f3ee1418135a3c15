use Rattle.std.proofs.Common.{◌∙◌, ap}
use Rattle.script_text.proofs.SkipLemmas.{is_skipped_at, is_skipped-words_of}
use Rattle.script_text.proofs.lines.is_skipped.Goals as goal

pub returns-in-Some : goal.returns-in-Some
returns-in-Some c = ap is_skipped_at c.in-Some.ensures ∙ is_skipped-words_of c.args.line.now

pub returns-in-None : goal.returns-in-None
returns-in-None c = ap is_skipped_at c.in-None.ensures ∙ is_skipped-words_of c.args.line.now
