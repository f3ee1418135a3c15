use Rattle.std.proofs.Common.{◌≡◌}
use Rattle.user_specs.specs.Bound.{nested_bound}
use Rattle.user_specs.proofs.bound.call_bound.Given as goal

abbrev pub invariant-loop : goal.invariant-loop
invariant-loop l = l.bound ≡ nested_bound l.users l.acting l.counter
