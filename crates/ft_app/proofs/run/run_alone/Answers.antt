use Rattle.std.proofs.Common.{None, refl}
use Rattle.ft_app.proofs.HistoryRings.{none-kept}
use Rattle.ft_app.proofs.run.run_alone.Goals as goal

pub returns : goal.returns
returns g c = record { run = c.in_ok-history-2.ensures; kept = none-kept _ _ _ None refl }
