use Rattle.std.proofs.Common.{◌≡◌, ℕ, ◌<◌, ◌≤◌, get_or, bit_or}
use Rattle.site_set.proofs.words.or_words.Given as goal

abbrev pub invariant-loop-w : goal.invariant-loop-w
invariant-loop-w l = record {
  done : (k : ℕ) → k < l.w → get_or l.words k 0 ≡ bit_or (get_or l.fn.words k 0) (get_or l.others k 0);
  untouched : (k : ℕ) → l.w ≤ k → get_or l.words k 0 ≡ get_or l.fn.words k 0;
}
