-- The places of the first parts are counted.
use Rattle.std.proofs.Common.{◌≡◌, length, take}
use Rattle.ring_rules.specs.Gathered.{places_of}
use Rattle.ring_rules.proofs.rings.count_places.Given as goal

abbrev pub invariant-loop-part : goal.invariant-loop-part
invariant-loop-part l = l.count ≡ length (places_of l.trigger (take l.part-index l.parts))
