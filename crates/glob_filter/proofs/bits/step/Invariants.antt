use Rattle.std.proofs.Common.{◌≡◌, ℕ, ◌^◌, ◌<◌, ◌≤◌, length, get_or}
use Rattle.glob_filter.proofs.WordLemmas.{carried, stepped}
use Rattle.glob_filter.proofs.bits.step.Given as goal

-- the words from w on have made the step, and the others are as they were
abbrev pub invariant-loop-w : goal.invariant-loop-w
invariant-loop-w l = record {
  done : (k : ℕ) → l.w ≤ k → k < length l.state → get_or l.state k 0 ≡ stepped l.fn.state l.takes l.stars l.byte k;
  untouched : (k : ℕ) → k < l.w → get_or l.state k 0 ≡ get_or l.fn.state k 0;
  carry : l.carry ≡ carried l.fn.state l.takes l.byte l.w;
  below : l.w ≤ length l.state;
  fits : (k : ℕ) → get_or l.fn.state k 0 < 2 ^ 64;
}

abbrev pub decreases-loop-w : goal.decreases-loop-w
decreases-loop-w l = l.w
