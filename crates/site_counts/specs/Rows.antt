-- The users that are sited at each function, counted (ftrace.rst, The File System: enabled_functions).
use Rattle.std.specs.Prelude.{ℕ, ◌+◌, ◌-◌, ◌≤◌, ◌<◌, Bool, List, length, map, slice_index_or, if◌then◌else◌}
use Rattle.std.specs.List.{range_with_len}
use Rattle.ft_base.specs.declared.limits.TheConstants.{USERS}
use Rattle.ft_base.specs.Marks.{Marks, holds}
use Rattle.site_counts.specs.declared.rows.Row.{Row}
use Rattle.site_counts.specs.declared.rows.Change.{Change}
use Rattle.site_counts.specs.declared.rows.Change.TheVariants.{Add, Drop}

-- a row without users
abbrev pub no_users : Row
no_users = record { count = 0; regs = 0; ipmodify = 0 }

-- the row of a function; a function that there isn't has no users
abbrev pub row_of : List Row → ℕ → Row
row_of rows f = slice_index_or rows f no_users

-- what a user with this flag counts for it
abbrev pub one_if : Bool → ℕ
one_if flag = if flag then 1 else 0

-- the row with one more user, which has these flags
abbrev pub with_user : Bool → Bool → Row → Row
with_user regs ipmodify row = record {
  count = row.count + 1;
  regs = row.regs + one_if regs;
  ipmodify = row.ipmodify + one_if ipmodify;
}

-- the row with one user fewer, which had these flags
abbrev pub without_user : Bool → Bool → Row → Row
without_user regs ipmodify row = record {
  count = row.count - 1;
  regs = row.regs - one_if regs;
  ipmodify = row.ipmodify - one_if ipmodify;
}

-- the rows with a change at each function of a set; the others stay
abbrev pub at_members : Marks → (Row → Row) → List Row → List Row
at_members on change rows =
    map (λ f. if holds on f then change (row_of rows f) else row_of rows f) (range_with_len 0 (length rows))

-- each count can take one more user
pub record HasRoom (row : Row) : Type 0 where
  pub count : row.count < USERS
  pub regs : row.regs < USERS
  pub ipmodify : row.ipmodify < USERS

-- each count has a user to lose, the flagged ones if the user has their flags
pub record HasUser (asks changes : Bool) (row : Row) : Type 0 where
  pub count : 1 ≤ row.count
  pub regs : one_if asks ≤ row.regs
  pub ipmodify : one_if changes ≤ row.ipmodify

-- the row after a user came or went
abbrev pub after : Change → Row → Row
after (Add regs ipmodify) row = with_user regs ipmodify row
after (Drop regs ipmodify) row = without_user regs ipmodify row

-- what a user needs of a row to come or go
abbrev pub Allows : Change → Row → Type 0
Allows (Add regs ipmodify) row = HasRoom row
Allows (Drop regs ipmodify) row = HasUser regs ipmodify row
