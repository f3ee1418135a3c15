use Rattle.std.proofs.Common.{◌≡◌, ℕ, true, List, ◌++◌, ◌-◌, length}
use Rattle.ft_io.specs.Pieces.{Puts}
use Rattle.told_facts.specs.Commands.{member}
use Rattle.told_facts.specs.Values.{parts}
use Rattle.told_facts.proofs.commands.put_members.Given as goal

-- the numbers so far were put, and those to come make them all
abbrev pub invariant-loop-f : goal.invariant-loop-f
invariant-loop-f g l = (text : List ℕ)
    × Puts g.K.Sink.holds g.K.Sink.faults text l.fn.sink l.fn.pieces l.sink l.pieces
    × (text ++ parts (member l.set) l.is_first l.f (length l.set - l.f) ≡ parts (member l.set) true 0 (length l.set))
