use Rattle.std.proofs.Common.{[]}
use Rattle.ft_app.proofs.Ends.{no-memory-for-words, no-order, no-words}
use Rattle.ft_app.proofs.program.run_program.Goals as goal

-- ## the arguments were not got: it ends as with no words

pub returns-in-Err : goal.returns-in-Err
returns-in-Err g c =
    ([], no-memory-for-words g.S.Source.remaining g.S.Source.faults g.K.Sink.holds g.K.Sink.faults [] c.args.source.now c.args.sink.now _ c.code.ensures)

pub returns-in-Err-2 : goal.returns-in-Err-2
returns-in-Err-2 g c =
    ([], no-order g.S.Source.remaining g.S.Source.faults g.K.Sink.holds g.K.Sink.faults [] c.args.source.now c.args.sink.now _ c.code-in-Err-2.ensures no-words)

pub returns-in_default : goal.returns-in_default
returns-in_default g c =
    ([], no-memory-for-words g.S.Source.remaining g.S.Source.faults g.K.Sink.holds g.K.Sink.faults [] c.args.source.now c.args.sink.now _ c.code-in_default.ensures)

pub returns-in_default-collect : goal.returns-in_default-collect
returns-in_default-collect g c = (
  [],
  no-memory-for-words g.S.Source.remaining g.S.Source.faults g.K.Sink.holds g.K.Sink.faults [] c.args.source.now c.args.sink.now _
      c.code-in_default-collect.ensures,
)

-- ## they were

pub returns : goal.returns
returns g c = (_, c.ft_main.ensures)
