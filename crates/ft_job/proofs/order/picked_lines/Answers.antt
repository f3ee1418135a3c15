use Rattle.std.proofs.Common.{arith}
use Rattle.ft_job.proofs.Ordered.{fewer, picked-no, picked-one}
use Rattle.ft_job.proofs.order.picked_lines.Goals as goal
use Rattle.ft_job.proofs.order.picked_lines.Goals.{in-Some+in_ok-copy, in_default}

pub loop-line-preserved : goal.loop-line-preserved
loop-line-preserved c =
    let i = c.loop-line.line-index in
    let lt = c.loop-line-test.true in
    let h = c.loop-line.invariant in
    let room = h.1 in
    let less = fewer c.args.order.now i lt in
    elim c.match-get.branch [
      | in-Some+in_ok-copy w ↦
          let p = w.push_reserved.ensures in
          let one = p.len in
          let same = p.capacity in
          rw (w.made-is, p.items) (
            picked-one c.args.order.now i lt c.args.lines.now c.loop-line.made.items h.0 c.get.result w.in-Some.ctl _ c.get.ensures.lookup w.in-Some.is w.in_ok-copy.ensures,
            omega (arith, room, less, one, same),
          )
      | in_default w ↦
          rw w.made-is (
            picked-no c.args.order.now i lt c.args.lines.now c.loop-line.made.items h.0 c.get.result c.get.ensures.lookup w.in_default.is,
            omega (arith, room, less),
          )
    ]
