use Rattle.std.proofs.Common.{◌≡◌, ◌≤◌, length, map, take, vec_capacity}
use Rattle.func_table.specs.Modules.{number_among}
use Rattle.module_table.proofs.owners.owners_of.Given as goal

abbrev pub invariant-loop-f : goal.invariant-loop-f
invariant-loop-f l = (l.owners.items ≡ take l.f (map (λ f. number_among l.names f.owner) l.table.functions)) × (length l.table.functions ≤ vec_capacity l.owners)
