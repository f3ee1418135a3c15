use Rattle.std.proofs.Common.{◌∙◌}
use Rattle.log_reader.proofs.NumberWords.{number-parsed}
use Rattle.log_reader.proofs.words.read_number.Goals as goal

pub returns : goal.returns
returns c = c.ok.ensures.value ∙ number-parsed c.args.word.now c.parse.result c.parse.ensures.value.0
