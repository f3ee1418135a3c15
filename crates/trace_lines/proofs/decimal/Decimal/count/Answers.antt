use Rattle.std.proofs.Common.{◌≡◌, ℕ, ◌+◌, ◌<◌, ◌^◌, arith}
use Rattle.trace_lines.proofs.CountedUp.{has-digit, counted-up}
use Rattle.trace_lines.proofs.decimal.Decimal.count.Goals as goal

small : (number now : ℕ) → number ≡ now → now + 1 < 2 ^ 32 → number + 1 < 2 ^ 32
small number now is few = omega (arith, is, few)

pub overflow_sub-last : goal.overflow_sub-last
overflow_sub-last c = has-digit c.self.inside.number c.self.inside.len c.self.inside.bytes (omega (arith, small c.self.inside.number c.args.self.now c.self.view_is c.requires)) c.self.invariant.1

pub overflow_sub-self : goal.overflow_sub-self
overflow_sub-self c = has-digit c.self.inside.number c.self.inside.len c.self.inside.bytes (omega (arith, small c.self.inside.number c.args.self.now c.self.view_is c.requires)) c.self.invariant.1

pub invariant_of-self : goal.invariant_of-self
invariant_of-self c = (
  c.self.invariant.0,
  counted-up c.self.inside.number c.self.inside.len c.self.inside.bytes (small c.self.inside.number c.args.self.now c.self.view_is c.requires)
      (omega (arith, c.self.told, c.self.invariant.0)) c.self.invariant.1 c.if-last-lt57.true,
)
