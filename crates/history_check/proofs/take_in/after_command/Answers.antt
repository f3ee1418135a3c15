-- The first line that is a command, if there is one.
use Rattle.std.proofs.Common.{◌∙◌, sym}
use Rattle.history_check.proofs.FollowPast.{after-none, after-run, after-until}
use Rattle.history_check.proofs.take_in.after_command.Goals as goal

pub returns-in-Run : goal.returns-in-Run
returns-in-Run c = λ n.
    sym (after-run n c.loop-line.rest.now c.in-Some.later.now c.in-Some.line.now c.in-Run.field-0 c.in-Some.ensures.cases.0 c.in-Run.is) ∙ c.loop-line.invariant n

pub loop-line-preserved : goal.loop-line-preserved
loop-line-preserved c = λ n.
    sym (after-until n c.loop-line.rest.now c.in-Some.later.now c.in-Some.line.now c.in-Some.ensures.cases.0 c.in_default-line.not-Run) ∙ c.loop-line.invariant n

pub returns : goal.returns
returns c = λ n. after-none n c.loop-line.rest.now c.in_default.ensures.cases ∙ c.loop-line.invariant n
