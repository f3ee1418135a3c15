use Rattle.ft_io.specs.declared.status.Status.TheVariants.{NoMemory}
use Rattle.judge_app.proofs.Ending.{no-memory-for-words}
use Rattle.judge_app.proofs.program.run_program.Goals as goal

pub returns-in-Err : goal.returns-in-Err
returns-in-Err g c = (
  0,
  record {
    status = NoMemory;
    known = c.code.ensures;
    ends = no-memory-for-words g.S.Source.remaining g.S.Source.faults g.K.Sink.holds g.K.Sink.faults c.args.source.now c.args.sink.now;
  },
)

pub returns : goal.returns
returns g c = (_, c.judge_main.ensures)
