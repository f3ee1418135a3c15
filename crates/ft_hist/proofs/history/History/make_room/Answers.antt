use Rattle.std.proofs.Common.{eqb-true, sym, ◌∙◌}
use Rattle.ft_base.proofs.Small.{on-err}
use Rattle.ft_hist.proofs.history.History.make_room.Goals as goal

pub returns-then-is_full-clause-full : goal.returns-then-is_full-clause-full
returns-then-is_full-clause-full c =
    on-err c.grow.result _ (eqb-true c.args.self.now.spare 0 (sym c.is_full.ensures ∙ c.if-is_full.true))
