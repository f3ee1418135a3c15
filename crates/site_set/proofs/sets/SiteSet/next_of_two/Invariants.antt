use Rattle.std.proofs.Common.{◌≡◌, ℕ, ◌*◌, ◌<◌, ◌≤◌, ◌||◌, false}
use Rattle.ft_base.specs.Marks.{holds}
use Rattle.site_set.proofs.sets.SiteSet.next_of_two.Given as goal

abbrev pub invariant-loop-w : goal.invariant-loop-w
invariant-loop-w l = (g : ℕ) → l.from ≤ g → g < 64 * l.w → (holds l.one g || holds l.other g) ≡ false
