-- What is counted and held while one user changes.
use Rattle.std.proofs.Common.{cond, ◌≡◌, ℕ, zero, suc, ◌+◌, ◌-◌, ◌<◌, ◌≤◌, Bool, true, false, not, ◌&&◌, ◌||◌, nat_lt, List, length, set, is_some, refl, sym, ap, ap₂, ◌∙◌, subst, arith, inl, inr, length-set}
use Rattle.std.proofs.lemmas.Bool.{cases_lt, lt-ltb, le-ltb}
use Rattle.std.proofs.lemmas.List.{get_or_past}
use Rattle.ft_base.specs.declared.limits.TheConstants.{USERS}
use Rattle.ft_base.specs.Marks.{Marks, holds, union, difference}
use Rattle.ft_base.proofs.Small.{false_true, and-false}
use Rattle.ft_base.specs.declared.number.UserNo.{UserNo}
use Rattle.ipmodify.specs.declared.conflicts.Holder.{Holder}
use Rattle.ft_desk.specs.RosterInvariant.{IsHolderOf}
use Rattle.site_set.proofs.MarksLemmas.{holds-union, holds-difference, length-union, length-difference}
use Rattle.site_counts.specs.declared.rows.Row.{Row}
use Rattle.site_counts.specs.Rows.{one_if, HasRoom, HasUser}
use Rattle.ft_desk.specs.declared.user.User.{User}
use Rattle.word_map.specs.Instructions.{insn_at, insn_of_slot}
use Rattle.ft_desk.specs.Users.{desk_by, insn_by, is_at, modifier_at, number_at, one_at, regs_at, row_by, sum_over, total_by, user_of}
use Rattle.ft_desk.specs.Moves.{moved, moved_row, MayMove, TellsOne}
use Rattle.ft_desk.proofs.SumLaws.{sum_over-set, sum_over-spare, total-small, part-small, one-tells, insn-is, IsThere}

-- the user comes to a function, if it is there after the change and not before it
abbrev pub comes_by : Bool → Bool → Bool
comes_by before after = after && not before

-- it leaves a function, if it is there before the change and not after it
abbrev pub leaves_by : Bool → Bool → Bool
leaves_by before after = before && not after

-- two users of one declaration
pub record SameKind (x y : User) : Type 0 where
  pub regs : y.regs ≡ x.regs
  pub ipmodify : y.ipmodify ≡ x.ipmodify

-- a number that is counted, if the sum changes by what the user counts
counted-moved : (a b : Bool) (k old new : ℕ) → new + cond a k 0 ≡ old + cond b k 0 → moved (comes_by a b) (leaves_by a b) k old ≡ new
counted-moved true true k old new e = omega arith
counted-moved true false k old new e = omega arith
counted-moved false true k old new e = omega arith
counted-moved false false k old new e = omega arith

one_if-and : (a b : Bool) → one_if (a && b) ≡ cond a (one_if b) 0
one_if-and true b = refl
one_if-and false b = refl

one_if-small : (b : Bool) → one_if b ≤ 1
one_if-small true = omega arith
one_if-small false = omega arith

abbrev pub row3 : ℕ → ℕ → ℕ → Row
row3 c r m = record { count = c; regs = r; ipmodify = m }

pub row3-same : (c c' r r' m m' : ℕ) → c ≡ c' → r ≡ r' → m ≡ m' → row3 c r m ≡ row3 c' r' m'
row3-same c c' r r' m m' ec er em = rw (ec, er, em) refl

one_at-small : (f u : ℕ) (x : User) → one_at f u x ≤ 1
one_at-small f u x = one_if-small (is_at f x)

regs_at-small : (f u : ℕ) (x : User) → regs_at f u x ≤ 1
regs_at-small f u x = one_if-small (is_at f x && x.regs)

modifier_at-small : (f u : ℕ) (x : User) → modifier_at f u x ≤ 1
modifier_at-small f u x = one_if-small (is_at f x && is_some x.ipmodify)

comes-apart : (a b : Bool) → comes_by a b ≡ true → leaves_by a b ≡ false
comes-apart true true h = refl
comes-apart true false h = false_true h
comes-apart false b h = refl

comes-before : (a b : Bool) → comes_by a b ≡ true → a ≡ false
comes-before true true h = false_true h
comes-before true false h = false_true h
comes-before false b h = refl

leaves-before : (a b : Bool) → leaves_by a b ≡ true → a ≡ true
leaves-before true b h = refl
leaves-before false b h = false_true h

-- the one user that is counted has a number
pub tells-one : (users : List User) (f : ℕ) → TellsOne (length users) (sum_over (one_at f) 0 users) (total_by users f)
tells-one users f e =
    let t = one-tells f 0 users e in
    ((let y = t.1 in omega (arith, y)), (let y = t.1 in let z = t.2.0 in omega (arith, y, z)))

module _ (users : List User) (u : ℕ) (y : User) (f : ℕ) (within : u < length users) (few : length users ≤ USERS) (same : SameKind (user_of users u) y) where
  abbrev x : User
  x = user_of users u

  abbrev after : List User
  after = set users u y

  abbrev comes : Bool
  comes = comes_by (is_at f (user_of users u)) (is_at f y)

  abbrev leaves : Bool
  leaves = leaves_by (is_at f (user_of users u)) (is_at f y)

  sums : (g : ℕ → User → ℕ) → sum_over g 0 (set users u y) + g u (user_of users u) ≡ sum_over g 0 users + g u y
  sums g = let e : 0 + u ≡ u = omega arith in
      subst (λ k. sum_over g 0 (set users u y) + g k (user_of users u) ≡ sum_over g 0 users + g k y) e (sum_over-set g 0 u users y within)

  parts : (g : ℕ → User → ℕ) → g u (user_of users u) ≤ sum_over g 0 users
  parts g = let e : 0 + u ≡ u = omega arith in
      subst (λ k. g k (user_of users u) ≤ sum_over g 0 users) e (part-small g 0 u users within)

  pub total-moved : moved comes leaves (suc u) (total_by users f) ≡ total_by (set users u y) f
  total-moved = counted-moved (is_at f (user_of users u)) (is_at f y) (suc u) _ _ (sums (number_at f))

  count-moved : moved comes leaves 1 (sum_over (one_at f) 0 users) ≡ sum_over (one_at f) 0 (set users u y)
  count-moved = counted-moved (is_at f (user_of users u)) (is_at f y) 1 _ _ (sums (one_at f))

  regs-moved : moved comes leaves (one_if y.regs) (sum_over (regs_at f) 0 users) ≡ sum_over (regs_at f) 0 (set users u y)
  regs-moved = counted-moved (is_at f (user_of users u)) (is_at f y) (one_if y.regs) _ _
      (ap (λ k. sum_over (regs_at f) 0 (set users u y) + k) (sym (one_if-and (is_at f (user_of users u)) (user_of users u).regs
      ∙ ap (λ (b : Bool). cond (is_at f (user_of users u)) (one_if b) 0) (sym same.regs)))
      ∙ sums (regs_at f) ∙ ap (λ k. sum_over (regs_at f) 0 users + k) (one_if-and (is_at f y) y.regs))

  modifiers-moved : moved comes leaves (one_if (is_some y.ipmodify)) (sum_over (modifier_at f) 0 users) ≡ sum_over (modifier_at f) 0 (set users u y)
  modifiers-moved = counted-moved (is_at f (user_of users u)) (is_at f y) (one_if (is_some y.ipmodify)) _ _
      (ap (λ k. sum_over (modifier_at f) 0 (set users u y) + k) (sym (one_if-and (is_at f (user_of users u)) (is_some (user_of users u).ipmodify)
      ∙ ap (λ b. cond (is_at f (user_of users u)) (one_if (is_some b)) 0) (sym same.ipmodify)))
      ∙ sums (modifier_at f) ∙ ap (λ k. sum_over (modifier_at f) 0 users + k) (one_if-and (is_at f y) (is_some y.ipmodify)))

  pub row-moved : moved_row comes leaves y.regs (is_some y.ipmodify) (row_by users f) ≡ row_by (set users u y) f
  row-moved = row3-same _ _ _ _ _ _ count-moved regs-moved modifiers-moved

  -- while the user is elsewhere, what is counted at the function is less than all users
  spare : (g : ℕ → User → ℕ) → ((v : ℕ) (x : User) → g v x ≤ 1) → g u (user_of users u) ≡ 0 → sum_over g 0 users < length users
  spare g small none = let e : u ≡ 0 + u = omega arith in
      sum_over-spare g 0 u users small within (subst (λ k. g k (user_of users u) ≡ 0) e none)

  has_room : is_at f (user_of users u) ≡ false → HasRoom (row_by users f)
  has_room away = record {
    count = omega (arith, spare (one_at f) (one_at-small f) (ap one_if away));
    regs = omega (arith, spare (regs_at f) (regs_at-small f) (ap (λ b. one_if (b && (user_of users u).regs)) away));
    ipmodify = omega (arith, spare (modifier_at f) (modifier_at-small f) (ap (λ b. one_if (b && is_some (user_of users u).ipmodify)) away));
  }

  has_user : is_at f (user_of users u) ≡ true → HasUser y.regs (is_some y.ipmodify) (row_by users f)
  has_user at = record {
    count = subst (λ (b : Bool). one_if b ≤ sum_over (one_at f) 0 users) at (parts (one_at f));
    regs = subst (λ (b : Bool). one_if b ≤ sum_over (regs_at f) 0 users) (ap₂ (λ b d. b && d) at (sym same.regs)) (parts (regs_at f));
    ipmodify = subst (λ (b : Bool). one_if b ≤ sum_over (modifier_at f) 0 users) (ap₂ (λ b d. b && is_some d) at (sym same.ipmodify)) (parts (modifier_at f));
  }

  has_number : is_at f (user_of users u) ≡ true → suc u ≤ total_by users f
  has_number at = subst (λ (b : Bool). cond b (suc u) 0 ≤ total_by users f) at (parts (number_at f))

  one_after : TellsOne (length users) (moved comes leaves 1 (sum_over (one_at f) 0 users)) (moved comes leaves (suc u) (total_by users f))
  one_after e =
      let t = tells-one (set users u y) f (sym count-moved ∙ e) in
      let size : length (set users u y) ≡ length users = length-set users u y in
      let moves = total-moved in
      (omega (arith, t.0, moves), omega (arith, t.1, moves, size))

  may-move : MayMove (length users) u comes leaves y.regs (is_some y.ipmodify) (row_by users f) (total_by users f)
  may-move = record {
    apart = comes-apart (is_at f (user_of users u)) (is_at f y);
    room = λ h. has_room (comes-before (is_at f (user_of users u)) (is_at f y) h);
    there = λ h. has_user (leaves-before (is_at f (user_of users u)) (is_at f y) h);
    numbered = λ h. has_number (leaves-before (is_at f (user_of users u)) (is_at f y) h);
    small = omega (arith, total-small f 0 users (omega arith));
    one_before = tells-one users f;
    one_after = one_after;
  }

  -- the same of what is counted, and of the sets of the functions that the user comes to and leaves
  pub may-move-at : (n : ℕ) (row : Row) (total : ℕ) (a b asks changes : Bool) → n ≡ length users → row ≡ row_by users f → total ≡ total_by users f → a ≡ comes → b ≡ leaves
      → asks ≡ y.regs → changes ≡ is_some y.ipmodify → MayMove n u a b asks changes row total
  may-move-at n row total a b asks changes en er et ea eb ek ec =
      subst (λ k. MayMove k u a b asks changes row total) (sym en)
      (subst (λ k. MayMove (length users) u k b asks changes row total) (sym ea)
      (subst (λ k. MayMove (length users) u comes k asks changes row total) (sym eb)
      (subst (λ k. MayMove (length users) u comes leaves k changes row total) (sym ek)
      (subst (λ k. MayMove (length users) u comes leaves y.regs k row total) (sym ec)
      (subst (λ k. MayMove (length users) u comes leaves y.regs (is_some y.ipmodify) k total) (sym er)
      (subst (λ k. MayMove (length users) u comes leaves y.regs (is_some y.ipmodify) (row_by users f) k) (sym et) may-move))))))

-- ## instructions

-- the users at a function have the same slots in two lists
abbrev pub SameSlots : ℕ → List User → List User → Type 0
SameSlots f users now = (v : ℕ) → IsThere f users v → (user_of now v).slot ≡ (user_of users v).slot

-- the instruction of a site by what is counted, with slots of another list
pub insn-known : (users now : List User) (f count total : ℕ) → SameSlots f users now → count ≡ sum_over (one_at f) 0 users → total ≡ total_by users f
    → insn_by now count total ≡ insn_at (desk_by users) f
insn-known users now f count total slots ec et = rw (ec, et) (by (sum_over (one_at f) 0 users) refl ∙ sym (insn-is users f))
  where
    by : (n : ℕ) → sum_over (one_at f) 0 users ≡ n → insn_by now n (total_by users f) ≡ insn_by users n (total_by users f)
    by zero e = refl
    by (suc zero) e =
        let t = one-tells f 0 users e in
        let at : total_by users f - 1 ≡ t.0 = (let z = t.1 in omega (arith, z)) in
        rw at (ap insn_of_slot (slots t.0 t.2))
    by (suc (suc n)) e = refl

-- ## sets of functions

-- the functions that a user comes to and leaves when it changes
pub record IsMove (n : ℕ) (x y : User) (came left : Marks) : Type 0 where
  pub came_size : length came ≡ n
  pub left_size : length left ≡ n
  pub comes : (f : ℕ) → f < n → holds came f ≡ comes_by (is_at f x) (is_at f y)
  pub leaves : (f : ℕ) → f < n → holds left f ≡ leaves_by (is_at f x) (is_at f y)

held-moved : (a b : Bool) → ((a && not (leaves_by a b)) || comes_by a b) ≡ b
held-moved true true = refl
held-moved true false = refl
held-moved false true = refl
held-moved false false = refl

-- what a holder has after its user has changed
module _ (n u : ℕ) (x y : User) (came left : Marks) (h h' : Holder) (move : IsMove n x y came left) (same : SameKind x y) (before : IsHolderOf n u x h)
    (user' : h'.user ≡ h.user) (on' : h'.on ≡ cond (is_some y.ipmodify) (union (difference h.on left) came) h.on) where
  on_size : (m : Bool) → h'.on ≡ cond m (union (difference h.on left) came) h.on → length h'.on ≡ n
  on_size true e = ap (λ (s : Marks). length s) e ∙ length-union (difference h.on left) came ∙ length-difference h.on left ∙ before.size
  on_size false e = ap (λ (s : Marks). length s) e ∙ before.size

  inside : (f : ℕ) → f < n → (m : Bool) → is_some y.ipmodify ≡ m → h'.on ≡ cond m (union (difference h.on left) came) h.on
      → holds h'.on f ≡ (is_some y.ipmodify && (nat_lt f n && is_at f y))
  inside f small true em e =
      let was : holds h.on f ≡ is_at f x = before.on f ∙ ap₂ (λ a b. a && (b && is_at f x)) (ap is_some (sym same.ipmodify) ∙ em) (lt-ltb f n small) in
      ap (λ (s : Marks). holds s f) e
      ∙ holds-union (difference h.on left) came (let a = length-difference h.on left in let b = before.size in let c = move.came_size in omega (arith, a, b, c)) f
      ∙ ap₂ (λ a b. a || b) (holds-difference h.on left f ∙ ap₂ (λ a b. a && not b) was (move.leaves f small)) (move.comes f small)
      ∙ held-moved (is_at f x) (is_at f y)
      ∙ sym (ap₂ (λ a b. a && (b && is_at f y)) em (lt-ltb f n small))
  inside f small false em e =
      ap (λ (s : Marks). holds s f) e ∙ before.on f
      ∙ ap (λ a. a && (nat_lt f n && is_at f x)) (ap is_some (sym same.ipmodify) ∙ em)
      ∙ sym (ap (λ a. a && (nat_lt f n && is_at f y)) em)

  outside : (f : ℕ) → n ≤ f → holds h'.on f ≡ (is_some y.ipmodify && (nat_lt f n && is_at f y))
  outside f past =
      let size = on_size (is_some y.ipmodify) on' in
      get_or_past h'.on f false (omega (arith, size)) ∙ sym (ap (λ a. is_some y.ipmodify && (a && is_at f y)) (le-ltb f n past) ∙ and-false (is_some y.ipmodify))

  pub held-after : IsHolderOf n u y h'
  held-after = record {
    user = ap (λ (w : UserNo). w.0) user' ∙ before.user;
    size = on_size (is_some y.ipmodify) on';
    on = λ f. elim (cases_lt f n) [ inl small ↦ inside f small (is_some y.ipmodify) refl on' | inr past ↦ outside f past ];
  }
