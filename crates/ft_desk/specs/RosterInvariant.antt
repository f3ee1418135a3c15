-- How a roster keeps its users, and what it counts of them.
use Rattle.std.specs.Prelude.{◌≡◌, ℕ, ◌≤◌, ◌<◌, ◌&&◌, nat_lt, [], length, get_or, is_some}
use Rattle.ft_base.specs.declared.limits.TheConstants.{USERS}
use Rattle.ft_base.specs.Marks.{holds}
use Rattle.filter_hash.specs.Pair.{Pair}
use Rattle.site_counts.specs.Rows.{row_of}
use Rattle.ipmodify.specs.declared.conflicts.Holder.{Holder}
use Rattle.ft_desk.specs.declared.user.User.{User}
use Rattle.ft_desk.specs.declared.roster.Room.{Room}
use Rattle.ft_desk.specs.declared.roster.Roster.TheInside.{Inside}
use Rattle.ft_desk.specs.Users.{user_of, row_by, total_by, is_at}
use Rattle.ft_desk.specs.Rosters.{Users}

-- the users, and how many functions are counted
abbrev pub users_of : Inside → Users
users_of r = record { users = r.users.items; funcs = length r.counts }

-- both sets of a pair have this size
pub record IsSized (n : ℕ) (pair : Pair) : Type 0 where
  pub filter : length pair.filter ≡ n
  pub notrace : length pair.notrace ≡ n

-- what stands for the number of a holder that there isn't
abbrev pub no_holder : Holder
no_holder = record { user = record { 0 = 0 }; on = [] }

-- a holder has the functions at which its user is sited, if that replaces functions
pub record IsHolderOf (n u : ℕ) (x : User) (h : Holder) : Type 0 where
  pub user : h.user.0 ≡ u
  pub size : length h.on ≡ n
  pub on : (f : ℕ) → holds h.on f ≡ (is_some x.ipmodify && (nat_lt f n && is_at f x))

-- the sets for a command have this size
pub record IsRoom (n : ℕ) (room : Room) : Type 0 where
  pub trial : IsSized n room.trial
  pub came : length room.came ≡ n
  pub left : length room.left ≡ n
  pub reach : length room.reach ≡ n

-- the sets have one size, and what is counted and held is that of the users
pub record RosterInvariant (r : Inside) : Type 0 where
  pub few : length r.users.items ≤ USERS
  pub pairs : (u : ℕ) → u < length r.users.items → IsSized (length r.counts) (user_of r.users.items u).pair
  pub rows : (f : ℕ) → f < length r.counts → row_of r.counts f ≡ row_by r.users.items f
  pub totals : (f : ℕ) → f < length r.counts → get_or r.totals.items f 0 ≡ total_by r.users.items f
  pub numbered : length r.totals.items ≡ length r.counts
  pub holders : length r.holders.items ≡ length r.users.items
  pub held : (u : ℕ) → u < length r.users.items → IsHolderOf (length r.counts) u (user_of r.users.items u) (get_or r.holders.items u no_holder)
  pub room : IsRoom (length r.counts) r.room
