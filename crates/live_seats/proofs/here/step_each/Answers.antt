use Rattle.std.proofs.Common.{rules, arith}
use Rattle.live_seats.specs.AnySeats.{tables}
use Rattle.live_seats.specs.Seatings.{own_seats}
use Rattle.live_seats.proofs.Alike.{all_over, none_over, same_all, same_table, stepped, stepped_over, one_of}
use Rattle.live_seats.proofs.here.step_each.Goals as goal

pub loop-i-init : goal.loop-i-init
loop-i-init g c = record { same = same_all (own_seats c.args.here.now.items); count = search rules; over = λ end. none_over c.args.here.now.items }

pub step-requires : goal.step-requires
step-requires g c =
    let sit = same_table (tables c.args.live.now c.args.rings.now) (own_seats c.args.here.now.items) (own_seats c.loop-i.here.items) c.requires c.loop-i.invariant.same in
    one_of (tables c.args.live.now c.args.rings.now) c.loop-i.here.items c.loop-i.i c.index_mut.result.now sit c.index_mut.ensures.value (search rules)

pub loop-i-preserved : goal.loop-i-preserved
loop-i-preserved g c = record {
  same = stepped (own_seats c.args.here.now.items) c.loop-i.here.items c.loop-i.i c.index_mut.result.now c.step.new.self c.loop-i.invariant.same c.index_mut.ensures.value c.step.ensures.same;
  count = c.loop-i.invariant.count;
  over = λ end k h lt at.
      (let both = c.either-going.ensures end in
      stepped_over c.loop-i.here.items c.loop-i.i c.step.new.self (c.loop-i.invariant.over both.0) (c.step.ensures.end both.1) k h (omega (arith, lt)) at);
}

pub returns-clause-end : goal.returns-clause-end
returns-clause-end g c = λ end.
    all_over c.loop-i.here.items
    (λ k h lt at. c.loop-i.invariant.over end k h (omega (arith, lt, c.loop-i-test.false, c.loop-i.invariant.count, c.loop-i.here.ok.0)) at)
