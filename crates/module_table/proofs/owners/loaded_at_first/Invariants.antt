use Rattle.std.proofs.Common.{◌≡◌, take}
use Rattle.module_table.specs.Lines.{loaded_at_first}
use Rattle.module_table.proofs.owners.loaded_at_first.Given as goal

-- of the absent modules the first are taken out
abbrev pub invariant-loop-m : goal.invariant-loop-m
invariant-loop-m l = l.loaded.items ≡ loaded_at_first l.modules (take l.m-index l.absent)
