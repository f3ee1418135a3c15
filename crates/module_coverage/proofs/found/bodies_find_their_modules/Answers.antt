use Rattle.module_coverage.proofs.FoundCalls.{runs}
use Rattle.module_coverage.proofs.found.bodies_find_their_modules.Goals as goal

pub returns : goal.returns
returns c = λ job items covered apart others legal. runs job apart covered others items legal
