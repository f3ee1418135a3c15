use Rattle.std.proofs.Common.{refl}
use Rattle.word_machine.specs.Commands.{effect}
use Rattle.command_moves.proofs.MovesLeft.{begins}
use Rattle.command_moves.proofs.found.moves_make_a_command.Goals as goal

pub returns : goal.returns
returns c = λ job s. begins job s (effect job s.commands_done) refl
