use Rattle.std.proofs.Common.{◌≡◌, ℕ, ◌-◌, ◌<◌, ◌≤◌, length, if◌then◌else◌}
use Rattle.ft_base.specs.Marks.{holds}
use Rattle.site_counts.specs.Rows.{after, row_of}
use Rattle.site_counts.proofs.members.change_members.Given as goal

abbrev pub invariant-loop-f : goal.invariant-loop-f
invariant-loop-f l = record {
  changed : (g : ℕ) → g < l.from → row_of l.rows g ≡ (if holds l.on g then after l.change (row_of l.initial.rows g) else row_of l.initial.rows g);
  rest : (g : ℕ) → l.from ≤ g → row_of l.rows g ≡ row_of l.initial.rows g;
}

abbrev pub decreases-loop-f : goal.decreases-loop-f
decreases-loop-f l = length l.on - l.from
