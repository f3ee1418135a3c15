use Rattle.judge_app.specs.Reply.{refusal_text}
use Rattle.fttell.specs.ToldText.{of_fault, of_replay, replay_text}
use Rattle.fttell.proofs.Tellings.{is-refusal, when-done, when-refused}
use Rattle.fttell.proofs.items.tell_replay.Goals as goal

pub returns-in-Ok : goal.returns-in-Ok
returns-in-Ok g c = λ next uncut answered.
    let told = c.replay_job.ensures answered in
    (replay_text c.in-Ok.job, when-done c.args.script.now _ told.0 (of_replay next uncut c.in-Ok.job c.in-Ok.ensures.job), told.1)

pub returns-in-Err : goal.returns-in-Err
returns-in-Err g c = λ next uncut answered.
    let told = c.refuse.ensures answered in
    let fault = c.in-Err.fault in
    (refusal_text fault, when-refused c.args.script.now _ told.0 (of_fault next uncut fault (is-refusal c.args.script.now fault c.in-Err.ensures.refused told.1)), told.2)
