use Rattle.std.proofs.Common.{◌≡◌, ℕ, suc, ◌-◌, ◌≤◌, ◌<◌, ◌++◌, length, get_or, is_some, vec_len, vec_capacity}
use Rattle.ft_base.specs.Marks.{holds}
use Rattle.site_counts.specs.Rows.{row_of}
use Rattle.ft_desk.specs.Sites.{changed_sites}
use Rattle.ft_desk.specs.Users.{user_of}
use Rattle.ft_desk.specs.Moves.{moved, moved_row, insn_before, insn_after}
use Rattle.ft_desk.proofs.sites.move_user.Given as goal

-- below the place where the loop stands all is done, and from there on nothing; what is written down, and what is still to come, is the
-- whole list
abbrev pub invariant-loop-f : goal.invariant-loop-f
invariant-loop-f l = record {
  within : l.from ≤ length l.initial.counts;
  size : length l.counts ≡ length l.initial.counts;
  long : length l.totals ≡ length l.initial.counts;
  room : vec_len l.sites ≤ l.from;
  capacity : vec_capacity l.sites ≡ vec_capacity l.initial.sites;
  rows : (g : ℕ) → g < l.from → row_of l.counts g
      ≡ moved_row (holds l.came g) (holds l.left g) (user_of l.users l.user.0).regs (is_some (user_of l.users l.user.0).ipmodify) (row_of l.initial.counts g);
  rows_rest : (g : ℕ) → l.from ≤ g → row_of l.counts g ≡ row_of l.initial.counts g;
  totals : (g : ℕ) → g < l.from → get_or l.totals g 0 ≡ moved (holds l.came g) (holds l.left g) (suc l.user.0) (get_or l.initial.totals g 0);
  totals_rest : (g : ℕ) → l.from ≤ g → get_or l.totals g 0 ≡ get_or l.initial.totals g 0;
  sites : l.sites.items ++ changed_sites (insn_before l.users l.initial.counts l.initial.totals) (insn_after l.users l.initial.counts l.initial.totals l.user.0 l.came l.left)
      l.from (length l.initial.counts - l.from)
      ≡ changed_sites (insn_before l.users l.initial.counts l.initial.totals) (insn_after l.users l.initial.counts l.initial.totals l.user.0 l.came l.left) 0 (length l.initial.counts);
}

abbrev pub decreases-loop-f : goal.decreases-loop-f
decreases-loop-f l = length l.initial.counts - l.from
