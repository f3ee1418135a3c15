use Rattle.live_table.proofs.Seating.{not-stepped}
use Rattle.live_table.proofs.laws.unsplit_cpus_have_not_stepped.Goals as goal

pub returns : goal.returns
returns c = not-stepped
