-- Rows as sums over the users that are there. The first part, on sums alone, serves the crates above too.
use Rattle.std.proofs.Common.{◌≡◌, ℕ, ◌+◌, ◌<◌, Bool, true, false, ◌&&◌, List, [], ◌∷◌, ◌++◌, length, cond, count_by, refl, sym, ap, subst, ◌∙◌, arith, if◌then◌else◌}
use Rattle.std.proofs.lemmas.List.{get_or-replicate, length-replicate}
use Rattle.std.proofs.lemmas.List.Sums.{sum_by-append, count_by-le-length}
use Rattle.ft_base.specs.declared.limits.TheConstants.{USERS}
use Rattle.ft_base.specs.Marks.{holds}
use Rattle.site_counts.specs.declared.rows.Row.{Row}
use Rattle.site_counts.specs.Rows.{no_users, row_of, one_if, with_user, without_user, at_members, HasRoom, HasUser}
use Rattle.site_counts.specs.Users.{SitedUser, Move, Added, Dropped, AreThere, nobody, added, dropped, rows_after, row_by}
use Rattle.site_counts.proofs.RowLemmas.{length-at_members, row_of-at_members}

-- rows with the same counts
same_row : {a b c x y z : ℕ} → a ≡ x → b ≡ y → c ≡ z → (let r : Row = record { count = a; regs = b; ipmodify = c } in r) ≡ record { count = x; regs = y; ipmodify = z }
same_row p q r = cc

-- one more user among those that are counted
count_by-inserted : {X : Type 0} (p : X → Bool) (before after : List X) (x : X) → count_by p (before ++ x ∷ after) ≡ count_by p (before ++ after) + one_if (p x)
count_by-inserted {X = X} p before after x =
    let n : X → ℕ = λ y. one_if (p y) in
    omega (arith, sum_by-append n before (x ∷ after), sum_by-append n (x ∷ []) after, sum_by-append n before after)

-- one more user in a sum
pub row_by-inserted : (before after : List SitedUser) (user : SitedUser) (f : ℕ)
    → row_by (before ++ user ∷ after) f ≡ (if holds user.on f then with_user user.regs user.ipmodify (row_by (before ++ after) f) else row_by (before ++ after) f)
row_by-inserted before after user f =
    same_row (count_by-inserted (λ (u : SitedUser). holds u.on f) before after user)
    (count_by-inserted (λ (u : SitedUser). holds u.on f && u.regs) before after user)
    (count_by-inserted (λ (u : SitedUser). holds u.on f && u.ipmodify) before after user)
    ∙ by_member (holds user.on f) (row_by (before ++ after) f)
  where
    by_member : (b : Bool) (row : Row)
        → (let r : Row = record { count = row.count + one_if b; regs = row.regs + one_if (b && user.regs); ipmodify = row.ipmodify + one_if (b && user.ipmodify) } in r)
        ≡ (if b then with_user user.regs user.ipmodify row else row)
    by_member true row = refl
    by_member false row = same_row (omega arith) (omega arith) (omega arith)

-- one user fewer in a sum
pub row_by-dropped : (before after : List SitedUser) (user : SitedUser) (f : ℕ)
    → (let row : Row = row_by (before ++ user ∷ after) f in if holds user.on f then without_user user.regs user.ipmodify row else row) ≡ row_by (before ++ after) f
row_by-dropped before after user f =
    ap (λ (row : Row). cond (holds user.on f) (without_user user.regs user.ipmodify row) row) (row_by-inserted before after user f)
    ∙ undone (holds user.on f) (row_by (before ++ after) f)
  where
    undone : (b : Bool) (row : Row)
        → (let r : Row = (if b then with_user user.regs user.ipmodify row else row) in if b then without_user user.regs user.ipmodify r else r) ≡ row
    undone true row = same_row (omega arith) (omega arith) (omega arith)
    undone false row = refl

-- no count of a sum is greater than the number of users
pub HasRoom-row_by : (users : List SitedUser) (f : ℕ) → length users < USERS → HasRoom (row_by users f)
HasRoom-row_by users f few = record {
  count = let le = count_by-le-length (λ (u : SitedUser). holds u.on f) users in omega arith;
  regs = let le = count_by-le-length (λ (u : SitedUser). holds u.on f && u.regs) users in omega arith;
  ipmodify = let le = count_by-le-length (λ (u : SitedUser). holds u.on f && u.ipmodify) users in omega arith;
}

-- a user that is in a sum can leave it
pub HasUser-row_by : (before after : List SitedUser) (user : SitedUser) (f : ℕ) → holds user.on f ≡ true
    → HasUser user.regs user.ipmodify (row_by (before ++ user ∷ after) f)
HasUser-row_by before after user f at_f =
    let row : Row = row_by (before ++ after) f in
    let is : row_by (before ++ user ∷ after) f ≡ with_user user.regs user.ipmodify row =
    row_by-inserted before after user f ∙ ap (λ b. cond b (with_user user.regs user.ipmodify row) row) at_f in
    subst (HasUser user.regs user.ipmodify) (sym is) (record { count = omega arith; regs = omega arith; ipmodify = omega arith })

-- ---- the rows after moves

pub length-rows_after : (size : ℕ) (moves : List Move) → length (rows_after size moves) ≡ size
length-rows_after size [] = length-replicate size no_users
length-rows_after size (Added user ∷ earlier) =
    length-at_members user.on (with_user user.regs user.ipmodify) (rows_after size earlier) ∙ length-rows_after size earlier
length-rows_after size (Dropped user ∷ earlier) =
    length-at_members user.on (without_user user.regs user.ipmodify) (rows_after size earlier) ∙ length-rows_after size earlier

pub rows-sums : (size f : ℕ) (moves : List Move) (users : List SitedUser) → AreThere moves users → f < size → row_of (rows_after size moves) f ≡ row_by users f
rows-sums size f moves users there within = by there
  where
    -- a change of a row that is known
    change_of : (user : SitedUser) (change : Row → Row) (earlier : List Move) (row : Row) → row_of (rows_after size earlier) f ≡ row
        → row_of (at_members user.on change (rows_after size earlier)) f ≡ (if holds user.on f then change row else row)
    change_of user change earlier row is =
        row_of-at_members user.on change (rows_after size earlier) f (omega (arith, length-rows_after size earlier))
        ∙ ap (λ (r : Row). cond (holds user.on f) (change r) r) is

    by : {moves : List Move} {users : List SitedUser} → AreThere moves users → row_of (rows_after size moves) f ≡ row_by users f
    by nobody = get_or-replicate size f no_users no_users within
    by (added {user} {earlier} {users} there) =
        change_of user (with_user user.regs user.ipmodify) earlier (row_by users f) (by there)
        ∙ sym (row_by-inserted [] users user f)
    by (dropped {user} {earlier} before after there) =
        change_of user (without_user user.regs user.ipmodify) earlier _ (by there) ∙ row_by-dropped before after user f

pub HasRoom-rows_after : (size f : ℕ) (moves : List Move) (users : List SitedUser) → AreThere moves users → f < size → length users < USERS
    → HasRoom (row_of (rows_after size moves) f)
HasRoom-rows_after size f moves users there within few =
    subst HasRoom (sym (rows-sums size f moves users there within)) (HasRoom-row_by users f few)

pub HasUser-rows_after : (size f : ℕ) (moves : List Move) (before after : List SitedUser) (user : SitedUser) → AreThere moves (before ++ user ∷ after)
    → f < size → holds user.on f ≡ true → HasUser user.regs user.ipmodify (row_of (rows_after size moves) f)
HasUser-rows_after size f moves before after user there within at_f =
    subst (HasUser user.regs user.ipmodify) (sym (rows-sums size f moves (before ++ user ∷ after) there within))
    (HasUser-row_by before after user f at_f)
