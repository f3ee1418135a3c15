use Rattle.machine_key.proofs.States.{states-told}
use Rattle.machine_key.proofs.codes_tell_states.Goals as goal

pub returns : goal.returns
returns c = states-told
