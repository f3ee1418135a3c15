use Rattle.std.proofs.Common.{◌≡◌, ◌≤◌, ◌++◌, length}
use Rattle.log_reader.specs.Lanes.{lanes_named}
use Rattle.log_reader.proofs.lanes.read_lanes.Given as goal

-- the text names the lanes that were read, and then those of what is left of it
abbrev pub invariant-loop-end : goal.invariant-loop-end
invariant-loop-end l = (lanes_named l.text ≡ l.named.items ++ lanes_named l.rest) × (length l.rest ≤ length l.text)

abbrev pub decreases-loop-end : goal.decreases-loop-end
decreases-loop-end l = length l.rest
