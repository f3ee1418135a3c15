use Rattle.std.proofs.Common.{sym, ◌∙◌}
use Rattle.ft_desk.proofs.ListLaws.{before-ends, after-ends}
use Rattle.ft_desk.proofs.desk.neighbours.Goals as goal

pub returns-clause-before : goal.returns-clause-before
returns-clause-before c = sym (before-ends c.args.order.now c.loop-at.at c.args.user.0 (record { 0 = 0 }) c.loop-at.before c.loop-at-test.false) ∙ c.loop-at.invariant.before

pub returns-clause-after : goal.returns-clause-after
returns-clause-after c = sym (after-ends c.args.order.now c.loop-at.at c.args.user.0 (record { 0 = 0 }) c.loop-at-test.false) ∙ c.loop-at.invariant.after
