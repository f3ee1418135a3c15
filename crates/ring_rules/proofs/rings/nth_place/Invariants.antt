-- The place is among those of the parts that are left, so many before it.
use Rattle.std.proofs.Common.{◌≡◌, drop}
use Rattle.std.specs.Prelude.{slice_index}
use Rattle.ring_rules.specs.Gathered.{places_of}
use Rattle.ring_rules.proofs.rings.nth_place.Given as goal

abbrev pub invariant-loop-part : goal.invariant-loop-part
invariant-loop-part l = slice_index (places_of l.trigger l.parts) l.i ≡ slice_index (places_of l.trigger (drop l.part-index l.parts)) l.left
