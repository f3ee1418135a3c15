use Rattle.log_reader.proofs.NeverRefused.{never-refused}
use Rattle.log_reader.proofs.laws.logs_are_not_refused.Goals as goal

pub returns : goal.returns
returns c = never-refused
