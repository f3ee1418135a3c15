use Rattle.live_table.proofs.Gathering.{always-reached}
use Rattle.live_table.proofs.laws.each_state_is_reached.Goals as goal

pub returns : goal.returns
returns c = always-reached
