use Rattle.std.proofs.Common.{arith}
use Rattle.ring_rules.proofs.Parts.{places-fit}
use Rattle.ring_rules.proofs.rings.count_places.Goals as goal

pub overflow_cast-count : goal.overflow_cast-count
overflow_cast-count c =
    let fit = places-fit c.args.trigger c.loop-part.part-index 4294967296 c.args.parts.now c.part-item.result c.places.result.now
    c.loop-part-test.true c.part-item.is c.places.ensures
    c.requires in
    omega (arith, fit)

pub overflow_add-count : goal.overflow_add-count
overflow_add-count c =
    let fit = places-fit c.args.trigger c.loop-part.part-index 4294967296 c.args.parts.now c.part-item.result c.places.result.now
    c.loop-part-test.true c.part-item.is c.places.ensures
    c.requires in
    let so-far = c.loop-part.invariant in
    omega (arith, fit, so-far)
