use Rattle.live_table.proofs.AtStart.{dealt-open}
use Rattle.live_table.proofs.live.Live.start_with.Goals as goal

pub returns-clause-control : goal.returns-clause-control
returns-clause-control c = dealt-open _ _ _ _ _ c.in_ok-live.ensures.control c.in_ok-cpus.ensures.control
