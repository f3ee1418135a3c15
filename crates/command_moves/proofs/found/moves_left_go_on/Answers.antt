use Rattle.command_moves.proofs.Bridge.{next-law, got-law}
use Rattle.command_moves.proofs.found.moves_left_go_on.Goals as goal

pub returns-clause-next : goal.returns-clause-next
returns-clause-next c = λ job s u is k. next-law job s u is k

pub returns-clause-got : goal.returns-clause-got
returns-clause-got c = λ job s u v is k. got-law job s u is k v
