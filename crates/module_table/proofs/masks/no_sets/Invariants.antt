use Rattle.std.proofs.Common.{◌≡◌, ◌≤◌, replicate, vec_capacity}
use Rattle.ft_base.specs.Marks.{empty}
use Rattle.module_table.proofs.masks.no_sets.Given as goal

abbrev pub invariant-loop-user : goal.invariant-loop-user
invariant-loop-user l = (l.sets.items ≡ replicate l._user (empty l.funcs)) × (l.users ≤ vec_capacity l.sets)
