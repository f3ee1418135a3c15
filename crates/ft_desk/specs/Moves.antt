-- A user that comes to some functions and leaves others, and what is counted at each.
use Rattle.std.specs.Prelude.{◌≡◌, ℕ, suc, ◌+◌, ◌-◌, ◌<◌, ◌≤◌, ◌^◌, Bool, true, false, List, get_or, if◌then◌else◌}
use Rattle.ft_base.specs.Marks.{Marks, holds}
use Rattle.site_bytes.specs.declared.insn.Insn.{Insn}
use Rattle.site_counts.specs.declared.rows.Row.{Row}
use Rattle.site_counts.specs.Rows.{one_if, row_of, HasRoom, HasUser}
use Rattle.ft_desk.specs.declared.user.User.{User}
use Rattle.ft_desk.specs.Users.{insn_by}

-- a number that rises by some amount if the user comes, and falls by it if the user leaves
abbrev pub moved : Bool → Bool → ℕ → ℕ → ℕ
moved comes leaves k n = if comes then n + k else (if leaves then n - k else n)

-- the row of a function
abbrev pub moved_row : Bool → Bool → Bool → Bool → Row → Row
moved_row comes leaves regs modifies row = record {
  count = moved comes leaves 1 row.count;
  regs = moved comes leaves (one_if regs) row.regs;
  ipmodify = moved comes leaves (one_if modifies) row.ipmodify;
}

-- if one user is counted, the total is the number, from 1, of one of this many users
abbrev pub TellsOne : ℕ → ℕ → ℕ → Type 0
TellsOne users count total = count ≡ 1 → (0 < total) × (total ≤ users)

-- what holds at a function for a user to come or leave
pub record MayMove (users u : ℕ) (comes leaves asks changes : Bool) (row : Row) (total : ℕ) : Type 0 where
  pub apart : comes ≡ true → leaves ≡ false
  pub room : comes ≡ true → HasRoom row
  pub there : leaves ≡ true → HasUser asks changes row
  pub numbered : leaves ≡ true → suc u ≤ total
  pub small : total + suc u < 2 ^ 32
  pub one_before : TellsOne users row.count total
  pub one_after : TellsOne users (moved comes leaves 1 row.count) (moved comes leaves (suc u) total)

-- the instruction of a site before the user moves
abbrev pub insn_before : List User → List Row → List ℕ → ℕ → Insn
insn_before users rows totals f = insn_by users (row_of rows f).count (get_or totals f 0)

-- and after it
abbrev pub insn_after : List User → List Row → List ℕ → ℕ → Marks → Marks → ℕ → Insn
insn_after users rows totals u came left f =
    insn_by users (moved (holds came f) (holds left f) 1 (row_of rows f).count) (moved (holds came f) (holds left f) (suc u) (get_or totals f 0))
