use Rattle.std.proofs.Common.{List, length, map, reverse, sym, ap, ◌∙◌}
use Rattle.ft_base.specs.Schedule.{turn_for}
use Rattle.ft_base.specs.declared.turn.Actor.{Actor}
use Rattle.word_machine.specs.Machine.{run, start}
use Rattle.ft_machine.proofs.Replays.{one-by-one}
use Rattle.ft_app.proofs.laws.each_run_is_a_replay.Goals as goal

pub returns : goal.returns
returns c = λ job items ended is.
    (let made = is.made in (
      map turn_for made.0,
      made.1 ∙ ap (λ (actors : List Actor). reverse (run job actors (start job)).past) (sym (one-by-one (length job.quanta) made.0)),
    ))
