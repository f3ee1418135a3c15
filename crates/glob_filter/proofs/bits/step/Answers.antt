use Rattle.std.proofs.Common.{◌≡◌, ◌+◌, ◌-◌, ◌<◌, length, refl, sym, arith}
use Rattle.glob_filter.proofs.WordLemmas.{carried_past, carry_more, done_more, untouched_more, below_more, has_place-stepped}
use Rattle.glob_filter.proofs.bits.step.Goals as goal

pub loop-w-init : goal.loop-w-init
loop-w-init c = record {
  done = λ k low high. absurd (omega arith);
  untouched = λ k h. refl;
  carry = sym (carried_past c.args.state.now c.args.takes.now c.args.byte (length c.args.state.now) (omega arith));
  below = omega arith;
  fits = λ k. omega (arith, c.type_inv.state k);
}

pub loop-w-preserved : goal.loop-w-preserved
loop-w-preserved c =
    let old = c.args.state.now in
    let takes = c.args.takes.now in
    let stars = c.args.stars.now in
    let now = c.loop-w in
    let one : now.w ≡ now.w - 1 + 1 = omega arith in
    let below : now.w - 1 < length now.state = omega (arith, now.invariant.below) in
    record {
      done = done_more old takes stars now.state c.args.byte now.w (now.w - 1) now.carry one below now.invariant.untouched now.invariant.carry now.invariant.done;
      untouched = untouched_more old takes stars now.state c.args.byte now.w (now.w - 1) now.carry one below now.invariant.untouched;
      carry = carry_more old takes stars now.state c.args.byte now.w (now.w - 1) now.carry one below now.invariant.untouched;
      below = below_more now.state now.w (now.w - 1) _ one now.invariant.below;
      fits = now.invariant.fits;
    }

pub returns-clause-places : goal.returns-clause-places
returns-clause-places c =
    has_place-stepped c.args.state.now c.args.takes.now c.args.stars.now c.loop-w.state c.args.byte c.loop-w.invariant.fits c.loop-w.auto.state
    (λ k h. c.loop-w.invariant.done k (omega arith) h)
