use Rattle.std.proofs.Common.{length, is_some, arith}
use Rattle.std.proofs.lemmas.List.Sums.{count_by-le-length}
use Rattle.user_specs.proofs.Rounds.{round-most}
use Rattle.user_specs.proofs.bound.call_bound.Goals as goal

pub overflow_mul-bound-in-loop : goal.overflow_mul-bound-in-loop
overflow_mul-bound-in-loop c =
    let fewer = count_by-le-length (λ s. is_some s.act) c.args.specs.now in
    let product = round-most (length c.args.specs.now) c.acting-acting.result c.loop.bound c.loop.counter c.loop.invariant c.requires.users (omega (arith, fewer)) (omega arith) in
    omega (arith, product)

pub overflow_add-bound-in-loop-2 : goal.overflow_add-bound-in-loop-2
overflow_add-bound-in-loop-2 c =
    let fewer = count_by-le-length (λ s. is_some s.act) c.args.specs.now in
    let product = round-most (length c.args.specs.now) c.acting-acting.result c.loop.bound c.loop.counter c.loop.invariant c.requires.users (omega (arith, fewer)) (omega arith) in
    omega (arith, product)
