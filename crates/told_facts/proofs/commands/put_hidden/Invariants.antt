use Rattle.std.proofs.Common.{◌≡◌, ℕ, List, ◌++◌, drop}
use Rattle.ft_io.specs.Pieces.{Puts}
use Rattle.told_facts.specs.Commands.{modules_after}
use Rattle.told_facts.proofs.commands.put_hidden.Given as goal

-- the names so far were put, and those to come make them all
abbrev pub invariant-loop-module : goal.invariant-loop-module
invariant-loop-module g l = (text : List ℕ)
    × Puts g.K.Sink.holds g.K.Sink.faults text l.fn.sink l.fn.pieces l.sink l.pieces
    × (text ++ modules_after l.names (drop l.module-index l.absent) ≡ modules_after l.names l.absent)
