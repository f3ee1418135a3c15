use Rattle.module_coverage.proofs.FoundCalls.{keeps}
use Rattle.module_coverage.proofs.found.calls_find_their_modules.Goals as goal

pub returns : goal.returns
returns c = λ job items covered apart legal. keeps job apart covered items legal
