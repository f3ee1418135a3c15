use Rattle.machine_key.specs.Codes.{outcome_code}
use Rattle.machine_key.proofs.States.{same}
use Rattle.machine_key.proofs.numbers_tell_outcomes.Goals as goal

pub returns : goal.returns
returns c = λ a b e. same outcome_code a b e
