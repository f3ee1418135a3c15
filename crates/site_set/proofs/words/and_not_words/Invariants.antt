use Rattle.std.proofs.Common.{◌≡◌, ℕ, ◌<◌, ◌≤◌, ◌-◌, ◌^◌, get_or, bit_and}
use Rattle.site_set.proofs.words.and_not_words.Given as goal

abbrev pub invariant-loop-w : goal.invariant-loop-w
invariant-loop-w l = record {
  done : (k : ℕ) → k < l.w → get_or l.words k 0 ≡ bit_and (get_or l.fn.words k 0) (2 ^ 64 - 1 - get_or l.others k 0);
  untouched : (k : ℕ) → l.w ≤ k → get_or l.words k 0 ≡ get_or l.fn.words k 0;
}
