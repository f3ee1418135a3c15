use Rattle.std.proofs.Common.{◌≡◌, ◌<◌, ℕ, length, get_or, bit_and}
use Rattle.site_set.proofs.sets.SiteSet.first_common.Given as goal

abbrev pub invariant-loop-w : goal.invariant-loop-w
invariant-loop-w l = record {
  same : length l.word-items ≡ length l.other-inside.words.items;
  apart : (k : ℕ) → k < l.w → bit_and (get_or l.word-items k 0) (get_or l.other-inside.words.items k 0) ≡ 0;
}
