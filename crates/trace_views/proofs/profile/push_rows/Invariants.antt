use Rattle.std.proofs.Common.{◌≡◌, ◌++◌, map, filter, take}
use Rattle.func_profile.specs.Rows.{has_hit}
use Rattle.trace_views.specs.declared.profile.ProfileLine.TheVariants.{Row}
use Rattle.trace_views.proofs.profile.push_rows.Given as goal

abbrev pub invariant-loop-row : goal.invariant-loop-row
invariant-loop-row l = l.lines.items ≡ l.initial.lines.items ++ map Row (filter has_hit (take l.row-index l.rows))
