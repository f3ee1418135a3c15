use Rattle.std.proofs.Common.{arith}
use Rattle.history_check.proofs.JudgeRuns.{at-end-is}
use Rattle.history_check.proofs.past.Past.is_at_end.Goals as goal

pub returns-then-self-commands : goal.returns-then-self-commands
returns-then-self-commands c = λ job past is.
    at-end-is job past c.args.self.now is c.commands.result c.have_ended.result (c.commands.ensures job is.desks)
    (λ h. (omega arith, c.have_ended.ensures.0 h)) (λ w. c.have_ended.ensures.1 w.1)
