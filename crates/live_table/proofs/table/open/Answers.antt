use Rattle.live_table.proofs.Opening.{opens}
use Rattle.live_table.proofs.table.open.Goals as goal

pub of_words-requires : goal.of_words-requires
of_words-requires c = opens c.args.key.now.job.value c.args.key.now.withheld c.requires.limited c.args.words.now c.requires.count c.requires.opening
