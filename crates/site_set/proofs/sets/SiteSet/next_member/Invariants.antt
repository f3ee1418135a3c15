use Rattle.std.proofs.Common.{◌≡◌, ℕ, ◌*◌, ◌<◌, ◌≤◌, false}
use Rattle.ft_base.specs.Marks.{holds}
use Rattle.site_set.proofs.sets.SiteSet.next_member.Given as goal

abbrev pub invariant-loop-w : goal.invariant-loop-w
invariant-loop-w l = (g : ℕ) → l.from ≤ g → g < 64 * l.w → holds l.self g ≡ false
