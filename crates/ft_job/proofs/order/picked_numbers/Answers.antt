use Rattle.std.proofs.Common.{arith, refl}
use Rattle.ft_job.proofs.Ordered.{fewer, picked-no, picked-one}
use Rattle.ft_job.proofs.order.picked_numbers.Goals as goal
use Rattle.ft_job.proofs.order.picked_numbers.Goals.{in-Some, in_default}

pub loop-place-preserved : goal.loop-place-preserved
loop-place-preserved c =
    let i = c.loop-place.place-index in
    let lt = c.loop-place-test.true in
    let h = c.loop-place.invariant in
    let room = h.1 in
    let less = fewer c.args.order.now i lt in
    elim c.match-get.branch [
      | in-Some w ↦
          let p = w.push_reserved.ensures in
          let one = p.len in
          let same = p.capacity in
          rw (w.made-is, p.items) (
            picked-one c.args.order.now i lt c.args.numbers.now c.loop-place.made.items h.0 c.get.result w.in-Some.number _ c.get.ensures.lookup w.in-Some.is refl,
            omega (arith, room, less, one, same),
          )
      | in_default w ↦
          rw w.made-is (
            picked-no c.args.order.now i lt c.args.numbers.now c.loop-place.made.items h.0 c.get.result c.get.ensures.lookup w.in_default.is,
            omega (arith, room, less),
          )
    ]
