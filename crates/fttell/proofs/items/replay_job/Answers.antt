use Rattle.std.proofs.Common.{Bool, reverse, subst}
use Rattle.std.specs.Io.KnownBytes.{Appends}
use Rattle.told_items.specs.ItemText.{told_text}
use Rattle.word_machine.specs.Machine.{play}
use Rattle.fttell.proofs.items.replay_job.Goals as goal

pub returns-in-Ok-replay_into : goal.returns-in-Ok-replay_into
returns-in-Ok-replay_into g c = λ answered.
    let job = c.args.job.now in
    let told = c.end.ensures job (play job).past c.in-Ok.telling c.in-Ok-replay_into.ensures.taken answered in (
      told.0,
      subst (λ (ended : Bool). Appends (g.K.Sink.holds c.args.sink) (g.K.Sink.holds c.end.result.1) (told_text job (reverse (play job).past) ended)) c.in-Ok-replay_into.ensures.ended
          (rw c.in-Ok.ensures.1 at told.1),
    )
