use Rattle.live_table.proofs.Gathering.{always-legal}
use Rattle.live_table.proofs.laws.the_history_is_always_legal.Goals as goal

pub returns : goal.returns
returns c = always-legal
