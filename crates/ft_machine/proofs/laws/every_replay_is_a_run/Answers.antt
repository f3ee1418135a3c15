use Rattle.ft_base.specs.Schedule.{actors_of}
use Rattle.word_machine.specs.Machine.{play, start}
use Rattle.ft_machine.proofs.Replays.{played-run}
use Rattle.ft_machine.proofs.laws.every_replay_is_a_run.Goals as goal

pub returns : goal.returns
unfolding play
returns c = λ job. played-run job (actors_of job) (start job)
