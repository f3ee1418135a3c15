use Rattle.std.proofs.Common.{◌≡◌, ◌++◌, length, map}
use Rattle.glob_filter.specs.Items.{ranges_of}
use Rattle.glob_filter.specs.TokenItems.{bounds_of}
use Rattle.glob_filter.proofs.parse.read_ranges.Given as goal

abbrev pub invariant-loop-rest : goal.invariant-loop-rest
invariant-loop-rest l = map bounds_of l.ranges.items ++ ranges_of l.rest ≡ ranges_of l.content

abbrev pub decreases-loop-rest : goal.decreases-loop-rest
decreases-loop-rest l = length l.rest
