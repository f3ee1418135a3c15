use Rattle.std.proofs.Common.{◌≡◌, ◌+◌, ◌≤◌, ◌++◌, length}
use Rattle.glob_filter.specs.Items.{items_of}
use Rattle.glob_filter.specs.TokenItems.{token_items}
use Rattle.glob_filter.proofs.parse.read_tokens.Given as goal

abbrev pub invariant-loop-first : goal.invariant-loop-first
invariant-loop-first l = record {
  same : token_items l.tokens.items ++ items_of l.rest ≡ items_of l.text;
  most : length l.tokens.items + length l.rest ≤ length l.text;
}

abbrev pub decreases-loop-first : goal.decreases-loop-first
decreases-loop-first l = length l.rest
