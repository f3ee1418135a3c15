-- Rows through calls that add users: how great their counts are at most, and who is there to be dropped.
use Rattle.std.proofs.Common.{◌≡◌, ℕ, ◌+◌, ◌<◌, ◌≤◌, Bool, true, false, sym, subst, arith, if◌then◌else◌}
use Rattle.ft_base.specs.declared.limits.TheConstants.{USERS}
use Rattle.site_counts.specs.declared.rows.Row.{Row}
use Rattle.site_counts.specs.Rows.{no_users, one_if, with_user, HasRoom, HasUser}

-- no count of the row is greater
pub record IsAtMost (n : ℕ) (row : Row) : Type 0 where
  pub count : row.count ≤ n
  pub regs : row.regs ≤ n
  pub ipmodify : row.ipmodify ≤ n

-- a row without users
pub at_most-none : (row : Row) → row ≡ no_users → IsAtMost 0 row
at_most-none row is = subst (IsAtMost 0) (sym is) (record { count = omega arith; regs = omega arith; ipmodify = omega arith })

-- a flag counts for one at most
one_if-le : (b : Bool) → one_if b ≤ 1
one_if-le true = omega arith
one_if-le false = omega arith

-- one more user
pub at_most-more : (n : ℕ) (b regs ipmodify : Bool) (row new : Row) → new ≡ (if b then with_user regs ipmodify row else row) → IsAtMost n row → IsAtMost (n + 1) new
at_most-more n b regs ipmodify row new is most = subst (IsAtMost (n + 1)) (sym is) (by b)
  where
    by : (b : Bool) → IsAtMost (n + 1) (if b then with_user regs ipmodify row else row)
    by true = record { count = omega arith; regs = omega (arith, one_if-le regs); ipmodify = omega (arith, one_if-le ipmodify) }
    by false = record { count = omega arith; regs = omega arith; ipmodify = omega arith }

-- there is room up to the limit
pub room-at_most : (n : ℕ) (row : Row) → IsAtMost n row → n < USERS → HasRoom row
room-at_most n row most few = record { count = omega arith; regs = omega arith; ipmodify = omega arith }

-- who was added is there
pub has-added : (b regs ipmodify : Bool) (row new : Row) → new ≡ (if b then with_user regs ipmodify row else row) → b ≡ true → HasUser regs ipmodify new
has-added true regs ipmodify row new is e = subst (HasUser regs ipmodify) (sym is) (record { count = omega arith; regs = omega arith; ipmodify = omega arith })
has-added false regs ipmodify row new is e = absurd cc

-- and stays when another comes
pub has-more : (b r i regs ipmodify : Bool) (row new : Row) → new ≡ (if b then with_user r i row else row) → HasUser regs ipmodify row → HasUser regs ipmodify new
has-more b r i regs ipmodify row new is has = subst (HasUser regs ipmodify) (sym is) (by b)
  where
    by : (b : Bool) → HasUser regs ipmodify (if b then with_user r i row else row)
    by true = record { count = omega arith; regs = omega arith; ipmodify = omega arith }
    by false = has
