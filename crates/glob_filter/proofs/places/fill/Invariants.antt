use Rattle.std.proofs.Common.{◌+◌, ◌≤◌, drop, length}
use Rattle.glob_filter.specs.TokenItems.{token_items}
use Rattle.glob_filter.specs.Places.{IsFilled}
use Rattle.glob_filter.proofs.places.fill.Given as goal

-- the items from `rest` on are there
abbrev pub invariant-loop-rest : goal.invariant-loop-rest
invariant-loop-rest l = record {
  filled : IsFilled l.takes l.stars l.place (token_items (drop l.rest l.tokens));
  most : l.place + l.rest ≤ length l.tokens;
}

abbrev pub decreases-loop-rest : goal.decreases-loop-rest
decreases-loop-rest l = l.rest
