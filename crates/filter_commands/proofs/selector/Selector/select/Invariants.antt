use Rattle.std.proofs.Common.{map}
use Rattle.filter_commands.specs.Meanings.{takes}
use Rattle.filter_commands.proofs.SetLemmas.{IsUpTo}
use Rattle.filter_commands.proofs.selector.Selector.select.Given as goal

-- of the functions so far, those that the selector takes are in the set
abbrev pub invariant-loop-f : goal.invariant-loop-f
invariant-loop-f l = IsUpTo (map (takes l.self) l.table.functions) l.set l.f
