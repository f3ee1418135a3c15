use Rattle.std.proofs.Common.{rules}
use Rattle.ft_io.specs.declared.status.Status.TheVariants.{Language}
use Rattle.judge_app.proofs.Ending.{word-given}
use Rattle.judge_app.proofs.app.judge_main.Goals as goal

pub returns-then-words-gt0 : goal.returns-then-words-gt0
returns-then-words-gt0 g c = record {
  status = Language;
  known = c.code.ensures;
  ends = word-given g.S.Source.remaining g.S.Source.faults g.K.Sink.holds g.K.Sink.faults c.args.source.now c.args.sink.now c.args.words (search rules);
}
