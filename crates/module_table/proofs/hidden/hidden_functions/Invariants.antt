use Rattle.module_table.specs.Lines.{hidden}
use Rattle.module_table.proofs.HiddenLaws.{IsUpTo}
use Rattle.module_table.proofs.hidden.hidden_functions.Given as goal

-- of the functions so far, those that are hidden are in the set
abbrev pub invariant-loop-f : goal.invariant-loop-f
invariant-loop-f l = IsUpTo (hidden l.owners l.loaded) l.set l.f
