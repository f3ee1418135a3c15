use Rattle.log_reader.proofs.LanesNamed.{log-names}
use Rattle.log_reader.proofs.laws.a_log_names_the_lanes_that_begin.Goals as goal

pub returns : goal.returns
returns c = log-names
