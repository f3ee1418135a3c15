-- Sums over users, and what they tell of the users at a function.
use Rattle.std.proofs.Common.{cond, ◌≡◌, ℕ, zero, suc, ◌+◌, ◌-◌, ◌*◌, ◌<◌, ◌≤◌, Bool, true, false, List, [], ◌∷◌, length, map, set, get_or, Option, Some, None, is_some, refl, sym, ap, ap₂, ◌∙◌, subst, arith}
use Rattle.ft_base.specs.declared.limits.TheConstants.{USERS}
use Rattle.ft_base.specs.declared.item.Ran.TheVariants.{List as ByList, Own}
use Rattle.ft_base.specs.Desk.{Desk, UserState, user_at, unseen, sited, sited_from, target, target_by}
use Rattle.ft_desk.specs.declared.user.User.{User}
use Rattle.word_map.specs.Instructions.{insn_at, insn_of, insn_of_slot}
use Rattle.ft_desk.specs.Users.{desk_by, insn_by, is_at, number_at, one_at, ran_by, state_of, sum_over, total_by, user_of}

-- ## one user changes

pub sum_over-set : (g : ℕ → User → ℕ) (from u : ℕ) (users : List User) (y : User) → u < length users
    → sum_over g from (set users u y) + g (from + u) (user_of users u) ≡ sum_over g from users + g (from + u) y
sum_over-set g from u [] y h = absurd (omega arith)
sum_over-set g from zero (x ∷ users) y h = let e : from + 0 ≡ from = omega arith in rw e (omega arith)
sum_over-set g from (suc u) (x ∷ users) y h =
    let deeper = sum_over-set g (suc from) u users y (omega arith) in
    let e : suc from + u ≡ from + suc u = omega arith in
    let moved : sum_over g (suc from) (set users u y) + g (from + suc u) (user_of users u) ≡ sum_over g (suc from) users + g (from + suc u) y =
    subst (λ k. sum_over g (suc from) (set users u y) + g k (user_of users u) ≡ sum_over g (suc from) users + g k y) e deeper in
    omega (arith, moved)

-- ## bounds

-- what each user counts is at most 1
pub sum_over-small : (g : ℕ → User → ℕ) (from : ℕ) (users : List User) → ((u : ℕ) (x : User) → g u x ≤ 1) → sum_over g from users ≤ length users
sum_over-small g from [] h = omega arith
sum_over-small g from (x ∷ users) h = omega (arith, h from x, sum_over-small g (suc from) users h)

-- and less in all, if one of them counts 0
pub sum_over-spare : (g : ℕ → User → ℕ) (from u : ℕ) (users : List User) → ((v : ℕ) (x : User) → g v x ≤ 1) → u < length users
    → g (from + u) (user_of users u) ≡ 0 → sum_over g from users < length users
sum_over-spare g from u [] h within none = absurd (omega arith)
sum_over-spare g from zero (x ∷ users) h within none =
    let e : from + 0 ≡ from = omega arith in
    let z : g from x ≡ 0 = subst (λ k. g k x ≡ 0) e none in
    omega (arith, z, sum_over-small g (suc from) users h)
sum_over-spare g from (suc u) (x ∷ users) h within none =
    let e : from + suc u ≡ suc from + u = omega arith in
    omega (arith, h from x, sum_over-spare g (suc from) u users h (omega arith) (subst (λ k. g k (user_of users u) ≡ 0) e none))

number-small : (f u : ℕ) (x : User) → number_at f u x ≤ suc u
number-small f u x = elim (is_at f x) as (λ b. cond b (suc u) 0 ≤ suc u) [ true ↦ omega arith | false ↦ omega arith ]

-- each number is at most USERS
pub total-small : (f from : ℕ) (users : List User) → from + length users ≤ USERS → sum_over (number_at f) from users ≤ USERS * length users
total-small f from [] h = omega arith
total-small f from (x ∷ users) h = omega (arith, number-small f from x, total-small f (suc from) users (omega arith))

-- a sum is as great as each of its parts
pub part-small : (g : ℕ → User → ℕ) (from u : ℕ) (users : List User) → u < length users → g (from + u) (user_of users u) ≤ sum_over g from users
part-small g from u [] h = absurd (omega arith)
part-small g from zero (x ∷ users) h = let e : from + 0 ≡ from = omega arith in rw e (omega arith)
part-small g from (suc u) (x ∷ users) h =
    let deeper = part-small g (suc from) u users (omega arith) in
    let e : suc from + u ≡ from + suc u = omega arith in
    let moved : g (from + suc u) (user_of users u) ≤ sum_over g (suc from) users = subst (λ k. g k (user_of users u) ≤ sum_over g (suc from) users) e deeper in
    omega (arith, moved)

-- ## those sited

-- the numbers, from 1, of a list of users
abbrev pub weigh : List ℕ → ℕ
weigh [] = 0
weigh (u ∷ us) = suc u + weigh us

pub sited-count : (d : Desk) (f from : ℕ) (users : List User) → length (sited_from d f from (map state_of users)) ≡ sum_over (one_at f) from users
sited-count d f from [] = refl
sited-count d f from (x ∷ users) = by (is_at f x) (sited-count d f (suc from) users)
  where
    by : (b : Bool) → length (sited_from d f (suc from) (map state_of users)) ≡ sum_over (one_at f) (suc from) users
        → length (cond b (from ∷ sited_from d f (suc from) (map state_of users)) (sited_from d f (suc from) (map state_of users)))
        ≡ cond b 1 0 + sum_over (one_at f) (suc from) users
    by true e = omega (arith, e)
    by false e = omega (arith, e)

pub sited-total : (d : Desk) (f from : ℕ) (users : List User) → weigh (sited_from d f from (map state_of users)) ≡ sum_over (number_at f) from users
sited-total d f from [] = refl
sited-total d f from (x ∷ users) = by (is_at f x) (sited-total d f (suc from) users)
  where
    by : (b : Bool) → weigh (sited_from d f (suc from) (map state_of users)) ≡ sum_over (number_at f) (suc from) users
        → weigh (cond b (from ∷ sited_from d f (suc from) (map state_of users)) (sited_from d f (suc from) (map state_of users)))
        ≡ cond b (suc from) 0 + sum_over (number_at f) (suc from) users
    by true e = omega (arith, e)
    by false e = omega (arith, e)

-- ## the one user

-- the user is at the function
abbrev pub IsThere : ℕ → List User → ℕ → Type 0
IsThere f users u = (u < length users) × (is_at f (user_of users u) ≡ true)

none_total : (f from : ℕ) (users : List User) → sum_over (one_at f) from users ≡ 0 → sum_over (number_at f) from users ≡ 0
none_total f from [] e = refl
none_total f from (x ∷ users) e = by (is_at f x) e (none_total f (suc from) users)
  where
    by : (b : Bool) → cond b 1 0 + sum_over (one_at f) (suc from) users ≡ 0
        → (sum_over (one_at f) (suc from) users ≡ 0 → sum_over (number_at f) (suc from) users ≡ 0)
        → cond b (suc from) 0 + sum_over (number_at f) (suc from) users ≡ 0
    by true e deeper = absurd (omega arith)
    by false e deeper = let z = deeper (omega arith) in omega (arith, z)

-- if one user is at a function, the total is its number from 1
pub one-tells : (f from : ℕ) (users : List User) → sum_over (one_at f) from users ≡ 1
    → (u : ℕ) × (sum_over (number_at f) from users ≡ suc (from + u)) × IsThere f users u
one-tells f from [] e = absurd (omega arith)
one-tells f from (x ∷ users) e = by (is_at f x) refl e (one-tells f (suc from) users)
  where
    by : (b : Bool) → is_at f x ≡ b → cond b 1 0 + sum_over (one_at f) (suc from) users ≡ 1
        → (sum_over (one_at f) (suc from) users ≡ 1 → (u : ℕ) × (sum_over (number_at f) (suc from) users ≡ suc (suc from + u)) × IsThere f users u)
        → (u : ℕ) × (cond b (suc from) 0 + sum_over (number_at f) (suc from) users ≡ suc (from + u)) × IsThere f (x ∷ users) u
    by true at e deeper = let z = none_total f (suc from) users (omega arith) in (0, omega (arith, z), (omega arith, at))
    by false at e deeper = let d = deeper (omega arith) in (suc d.0, (let y = d.1 in omega (arith, y)), ((let y = d.2.0 in omega (arith, y)), d.2.1))

-- ## instructions

pub user_at-is : (users : List User) (u : ℕ) → get_or (map state_of users) u (unseen 0) ≡ state_of (user_of users u)
user_at-is [] u = refl
user_at-is (x ∷ users) zero = refl
user_at-is (x ∷ users) (suc u) = user_at-is users u

-- the instruction by a list of those sited
insn-by-list : (users : List User) (us : List ℕ) → insn_of (desk_by users) (target_by (desk_by users) us) ≡ insn_by users (length us) (weigh us)
insn-by-list users [] = refl
insn-by-list users (u ∷ []) =
    let e : (suc u + 0) - 1 ≡ u = omega arith in
    single (user_at (desk_by users) u).slot refl ∙ ap (λ (s : UserState). insn_of_slot s.slot) (user_at-is users u)
    ∙ ap (λ k. insn_of_slot (user_of users k).slot) (sym e)
  where
    single : (o : Option ℕ) → (user_at (desk_by users) u).slot ≡ o
        → insn_of (desk_by users) (cond (is_some o) (Own (record { 0 = u })) ByList) ≡ insn_of_slot o
    single None e = refl
    single (Some s) e = ap insn_of_slot e
insn-by-list users (u ∷ v ∷ rest) = refl

-- the instruction of a site, by what is counted
pub insn-is : (users : List User) (f : ℕ) → insn_at (desk_by users) f ≡ insn_by users (sum_over (one_at f) 0 users) (total_by users f)
unfolding insn_at
insn-is users f = insn-by-list users (sited (desk_by users) f) ∙ ap₂ (insn_by users) (sited-count (desk_by users) f 0 users) (sited-total (desk_by users) f 0 users)

-- ## what a call runs

-- by a list of those sited
ran-by-list : (users : List User) (us : List ℕ) → target_by (desk_by users) us ≡ ran_by users (length us) (weigh us)
ran-by-list users [] = refl
ran-by-list users (u ∷ []) =
    let e : (suc u + 0) - 1 ≡ u = omega arith in
    ap (λ (s : UserState). cond (is_some s.slot) (Own (record { 0 = u })) ByList) (user_at-is users u)
    ∙ ap (λ k. cond (is_some (user_of users k).slot) (Own (record { 0 = k })) ByList) (sym e)
ran-by-list users (u ∷ v ∷ rest) = refl

-- by what is counted
pub ran-is : (users : List User) (f : ℕ) → target (desk_by users) f ≡ ran_by users (sum_over (one_at f) 0 users) (total_by users f)
ran-is users f = ran-by-list users (sited (desk_by users) f) ∙ ap₂ (ran_by users) (sited-count (desk_by users) f 0 users) (sited-total (desk_by users) f 0 users)
