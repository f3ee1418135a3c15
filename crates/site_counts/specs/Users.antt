-- Users that are added at their functions and dropped again, and the rows as sums over those that are there.
use Rattle.std.specs.Prelude.{ℕ, Bool, ◌&&◌, List, [], ◌∷◌, ◌++◌, count_by, replicate}
use Rattle.ft_base.specs.Marks.{Marks, holds}
use Rattle.site_counts.specs.declared.rows.Row.{Row}
use Rattle.site_counts.specs.Rows.{no_users, with_user, without_user, at_members}

-- a user: the functions that it is sited at, and its flags
pub record SitedUser : Type 0 where
  pub on : Marks
  pub regs : Bool
  pub ipmodify : Bool

-- a user is added, or dropped
pub data Move : Type 0 where
  Added : (user : SitedUser) → Move
  Dropped : (user : SitedUser) → Move

-- the rows after moves, the latest of them first; in the beginning there are no users
abbrev pub rows_after : ℕ → List Move → List Row
rows_after size [] = replicate size no_users
rows_after size (Added user ∷ earlier) = at_members user.on (with_user user.regs user.ipmodify) (rows_after size earlier)
rows_after size (Dropped user ∷ earlier) = at_members user.on (without_user user.regs user.ipmodify) (rows_after size earlier)

-- after these moves, the latest of them first, these users have been added and not dropped; only one of them can be dropped
pub data AreThere : List Move → List SitedUser → Type 0 where
  nobody : AreThere [] []
  added : {user : SitedUser} {earlier : List Move} {users : List SitedUser} → AreThere earlier users
      → AreThere (Added user ∷ earlier) (user ∷ users)
  dropped : {user : SitedUser} {earlier : List Move} (before after : List SitedUser) → AreThere earlier (before ++ user ∷ after)
      → AreThere (Dropped user ∷ earlier) (before ++ after)

-- the row of a function as a sum over users: how many are sited there, and how many of these have each flag
abbrev pub row_by : List SitedUser → ℕ → Row
row_by users f = record {
  count = count_by (λ u. holds u.on f) users;
  regs = count_by (λ u. holds u.on f && u.regs) users;
  ipmodify = count_by (λ u. holds u.on f && u.ipmodify) users;
}
