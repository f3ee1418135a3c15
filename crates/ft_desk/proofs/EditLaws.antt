-- A user's sets are edited, or the user is enabled or disabled: what the roster's steps make of it.
use Rattle.std.proofs.Common.{cond, ◌≡◌, ℕ, suc, ◌+◌, ◌<◌, Bool, not, ◌&&◌, nat_lt, List, length, set, get_or, is_some, refl, sym, ap, ap₂, ◌∙◌, subst, arith, inl, inr, length-set, get_or-set_same, get_or-set_other}
use Rattle.std.proofs.lemmas.Bool.{cases_eq}
use Rattle.std.proofs.lemmas.List.{get_or_read}
use Rattle.ft_base.specs.declared.user.Half.{Half}
use Rattle.ft_base.specs.declared.user.Half.TheVariants.{Filter, Notrace}
use Rattle.ft_base.specs.Marks.{Marks, holds, difference}
use Rattle.ft_base.specs.Job.{Edit}
use Rattle.ft_base.specs.Desk.{matches_by}
use Rattle.site_set.proofs.MarksLemmas.{holds-difference, length-difference}
use Rattle.filter_hash.specs.Pair.{Pair, size_of}
use Rattle.filter_hash.proofs.EditLaws.{length-edited}
use Rattle.ft_desk.specs.declared.user.User.{User}
use Rattle.ft_desk.specs.declared.roster.Roster.TheInside.{Inside}
use Rattle.word_map.specs.Instructions.{insn_at}
use Rattle.ft_desk.specs.Users.{desk_by, edited_pair, edited_user, is_at, no_user, number_at, one_at, regs_at, modifier_at, row_by, sum_over, switched, total_by, user_of}
use Rattle.ft_desk.specs.RosterInvariant.{IsHolderOf, RosterInvariant, IsSized, no_holder}
use Rattle.ft_desk.proofs.SumLaws.{sum_over-set}
use Rattle.ft_desk.proofs.RosterLaws.{insn-known}
use Rattle.ft_desk.proofs.StepLaws.{IsStep}

pub sized-edited : (n : ℕ) (half : Half) (e : Edit) (pair : Pair) → IsSized n pair → IsSized n (edited_pair half e pair)
sized-edited n Filter e pair s = record { filter = length-edited (size_of pair) pair.filter e refl ∙ s.filter; notrace = s.notrace }
sized-edited n Notrace e pair s = record { filter = s.filter; notrace = length-edited (size_of pair) pair.notrace e (s.notrace ∙ sym s.filter) ∙ s.filter }

-- x0 tells whether the user is registered; x1 to x3 are the user before, y after, and z is y
module _ (r : Inside) (k : RosterInvariant r) (u : ℕ) (half : Half) (e : Edit) (x0 x1 x2 x3 y z : User) (old again new came left : Marks) (within : u < length r.users.items)
    (e0 : x0 ≡ get_or r.users.items u x0) (e1 : x1 ≡ get_or r.users.items u x1) (e2 : x2 ≡ get_or r.users.items u x2) (e3 : x3 ≡ get_or r.users.items u x3)
    (ey : y ≡ edited_user half e x3) (ez : z ≡ get_or (set r.users.items u y) u z) where
  xs : (x : User) → x ≡ get_or r.users.items u x → x ≡ user_of r.users.items u
  xs x ex = get_or_read r.users.items u x within ex no_user

  made : y ≡ edited_user half e (user_of r.users.items u)
  made = ey ∙ ap (edited_user half e) (xs x3 e3)

  zs : z ≡ y
  zs = get_or_read (set r.users.items u y) u z (let l = length-set r.users.items u y in omega (arith, l, within)) ez no_user ∙ get_or-set_same r.users.items u y no_user within

  sized : IsSized (length r.counts) y.pair
  sized = subst (λ (p : Pair). IsSized (length r.counts) p) (sym (ap (λ (w : User). w.pair) made)) (sized-edited (length r.counts) half e (user_of r.users.items u).pair (k.pairs u within))

  -- the sets after the edit have the size of the others
  pub edit-size : length r.room.came ≡ size_of z.pair
  edit-size = k.room.came ∙ sym (ap (λ (w : User). size_of w.pair) zs ∙ sized.filter)

  reach-before : (x : User) (s : Marks) → x ≡ get_or r.users.items u x
      → ((f : ℕ) → f < size_of x.pair → holds s f ≡ (x0.registered && matches_by x.pair.filter x.pair.notrace f))
      → (f : ℕ) → f < length r.counts → holds s f ≡ is_at f (user_of r.users.items u)
  reach-before x s ex members f small =
      let size : size_of x.pair ≡ length r.counts = ap (λ (w : User). size_of w.pair) (xs x ex) ∙ (k.pairs u within).filter in
      members f (omega (arith, size, small)) ∙ ap₂ (λ (a : User) (b : User). a.registered && matches_by b.pair.filter b.pair.notrace f) (xs x0 e0) (xs x ex)

  reach-after : (s : Marks) → ((f : ℕ) → f < size_of z.pair → holds s f ≡ (x0.registered && matches_by z.pair.filter z.pair.notrace f))
      → (f : ℕ) → f < length r.counts → holds s f ≡ is_at f y
  reach-after s members f small =
      let size : size_of z.pair ≡ length r.counts = ap (λ (w : User). size_of w.pair) zs ∙ sized.filter in
      let reg : x0.registered ≡ y.registered = ap (λ (w : User). w.registered) (xs x0 e0) ∙ sym (ap (λ (w : User). w.registered) made) in
      members f (omega (arith, size, small)) ∙ ap₂ (λ a (b : User). a && matches_by b.pair.filter b.pair.notrace f) reg zs

  module _ (m1 : (f : ℕ) → f < size_of x1.pair → holds old f ≡ (x0.registered && matches_by x1.pair.filter x1.pair.notrace f))
      (m2 : (f : ℕ) → f < size_of x2.pair → holds again f ≡ (x0.registered && matches_by x2.pair.filter x2.pair.notrace f))
      (m3 : (f : ℕ) → f < size_of z.pair → holds new f ≡ (x0.registered && matches_by z.pair.filter z.pair.notrace f))
      (old_size : length old ≡ length r.room.left) (new_size : length new ≡ length r.room.came)
      (left_is : left ≡ difference old new) (came_is : came ≡ difference new again) (now : List User) (en : now ≡ set r.users.items u y) where
    here : user_of now u ≡ y
    here = ap (λ (us : List User). user_of us u) en ∙ get_or-set_same r.users.items u y no_user within

    slots : (v : ℕ) → (user_of (set r.users.items u y) v).slot ≡ (user_of r.users.items v).slot
    slots v = elim (cases_eq v u) [
      | inl i ↦ ap (λ (w : ℕ). (user_of (set r.users.items u y) w).slot) i ∙ ap (λ (w : User). w.slot) (get_or-set_same r.users.items u y no_user within ∙ made)
          ∙ sym (ap (λ (w : ℕ). (user_of r.users.items w).slot) i)
      | inr ne ↦ ap (λ (w : User). w.slot) (get_or-set_other r.users.items u v y no_user ne)
    ]

    pub edit-step : IsStep r u y came left now
    edit-step = record {
      within = within;
      same = record { regs = ap (λ (w : User). w.regs) made; ipmodify = ap (λ (w : User). w.ipmodify) made };
      sized = sized;
      move = record {
        came_size = ap length came_is ∙ length-difference new again ∙ new_size ∙ k.room.came;
        left_size = ap length left_is ∙ length-difference old new ∙ old_size ∙ k.room.left;
        comes = λ f small. ap (λ (s : Marks). holds s f) came_is ∙ holds-difference new again f
            ∙ ap₂ (λ a b. a && not b) (reach-after new m3 f small) (reach-before x2 again e2 m2 f small);
        leaves = λ f small. ap (λ (s : Marks). holds s f) left_is ∙ holds-difference old new f
            ∙ ap₂ (λ a b. a && not b) (reach-before x1 old e1 m1 f small) (reach-after new m3 f small);
      };
      size = ap length en ∙ length-set r.users.items u y;
      regs = ap (λ (w : User). w.regs) here;
      ipmodify = ap (λ (w : User). w.ipmodify) here;
      before = λ f v there. ap (λ (us : List User). (user_of us v).slot) en ∙ slots v;
      after = λ f v there. ap (λ (us : List User). (user_of us v).slot) en;
    }

-- ## a user is enabled or disabled

-- a user of the same sites, slot and declaration
pub record SameSites (x y : User) : Type 0 where
  pub at : (f : ℕ) → is_at f y ≡ is_at f x
  pub regs : y.regs ≡ x.regs
  pub ipmodify : y.ipmodify ≡ x.ipmodify
  pub slot : y.slot ≡ x.slot

module _ (users : List User) (u : ℕ) (y : User) (within : u < length users) (s : SameSites (user_of users u) y) where
  sum-still : (g : ℕ → User → ℕ) → g (0 + u) y ≡ g (0 + u) (user_of users u) → sum_over g 0 (set users u y) ≡ sum_over g 0 users
  sum-still g e = let z = sum_over-set g 0 u users y within in omega (arith, z, e)

  pub row-still : (f : ℕ) → row_by (set users u y) f ≡ row_by users f
  row-still f =
      let a = sum-still (one_at f) (ap (λ b. cond b 1 0) (s.at f)) in
      let b = sum-still (regs_at f) (ap₂ (λ b d. cond (b && d) 1 0) (s.at f) s.regs) in
      let c = sum-still (modifier_at f) (ap₂ (λ b d. cond (b && is_some d) 1 0) (s.at f) s.ipmodify) in
      rw (a, b, c) refl

  pub total-still : (f : ℕ) → total_by (set users u y) f ≡ total_by users f
  total-still f = sum-still (number_at f) (ap (λ b. cond b (suc (0 + u)) 0) (s.at f))

  slot-still : (v : ℕ) → (user_of users v).slot ≡ (user_of (set users u y) v).slot
  slot-still v = elim (cases_eq v u) [
    | inl i ↦ ap (λ (w : ℕ). (user_of users w).slot) i ∙ sym s.slot
        ∙ sym (ap (λ (w : ℕ). (user_of (set users u y) w).slot) i ∙ ap (λ (w : User). w.slot) (get_or-set_same users u y no_user within))
    | inr ne ↦ sym (ap (λ (w : User). w.slot) (get_or-set_other users u v y no_user ne))
  ]

  pub insn-still : (f : ℕ) → insn_at (desk_by (set users u y)) f ≡ insn_at (desk_by users) f
  insn-still f =
      sym (insn-known (set users u y) users f (sum_over (one_at f) 0 users) (total_by users f) (λ v there. slot-still v)
      (sym (sum-still (one_at f) (ap (λ b. cond b 1 0) (s.at f)))) (sym (total-still f)))
      ∙ insn-known users users f (sum_over (one_at f) 0 users) (total_by users f) (λ v there. refl) refl refl

module _ (r : Inside) (k : RosterInvariant r) (u : ℕ) (x y : User) (within : u < length r.users.items) (ex : x ≡ get_or r.users.items u x) (enabled : Bool)
    (ey : y ≡ switched enabled x) where
  same-sites : SameSites (user_of r.users.items u) y
  same-sites =
      let e : y ≡ switched enabled (user_of r.users.items u) = ey ∙ ap (switched enabled) (get_or_read r.users.items u x within ex no_user) in
      record {
        at = λ f. ap (is_at f) e;
        regs = ap (λ (w : User). w.regs) e;
        ipmodify = ap (λ (w : User). w.ipmodify) e;
        slot = ap (λ (w : User). w.slot) e;
      }

  same-pair : y.pair ≡ (user_of r.users.items u).pair
  same-pair = ap (λ (w : User). w.pair) (ey ∙ ap (switched enabled) (get_or_read r.users.items u x within ex no_user))

  pub switch-sites : (f : ℕ) → insn_at (desk_by (set r.users.items u y)) f ≡ insn_at (desk_by r.users.items) f
  switch-sites f = insn-still r.users.items u y within same-sites f

  pub switch-kept : (r' : Inside) → r'.users.items ≡ set r.users.items u y → r'.counts ≡ r.counts → r'.totals ≡ r.totals → r'.holders ≡ r.holders → r'.room ≡ r.room
      → RosterInvariant r'
  switch-kept r' eu ec et eh er =
      let n' : length r'.users.items ≡ length r.users.items = ap length eu ∙ length-set r.users.items u y in
      record {
        few = (let a = k.few in omega (arith, a, n'));
        pairs = λ v small. rw (ec, eu) (pair-at v (omega (arith, n', small)));
        rows = λ f small. rw (ec, eu) (k.rows f (rw ec at small) ∙ sym (row-still r.users.items u y within same-sites f));
        totals = λ f small. rw (et, eu) (k.totals f (rw ec at small) ∙ sym (total-still r.users.items u y within same-sites f));
        numbered = rw (et, ec) k.numbered;
        holders = rw (eh, n') k.holders;
        held = λ v small. rw (ec, eu, eh) (held-at v (omega (arith, n', small)));
        room = rw (ec, er) k.room;
      }
    where
      pair-at : (v : ℕ) → v < length r.users.items → IsSized (length r.counts) (user_of (set r.users.items u y) v).pair
      pair-at v small = elim (cases_eq v u) [
        | inl i ↦ subst (λ (w : ℕ). IsSized (length r.counts) (user_of (set r.users.items u y) w).pair) (sym i)
            (subst (λ (p : Pair). IsSized (length r.counts) p) (sym (ap (λ (w : User). w.pair) (get_or-set_same r.users.items u y no_user within) ∙ same-pair)) (k.pairs u within))
        | inr ne ↦ subst (λ (w : User). IsSized (length r.counts) w.pair) (sym (get_or-set_other r.users.items u v y no_user ne)) (k.pairs v small)
      ]

      held-still : IsHolderOf (length r.counts) u y (get_or r.holders.items u no_holder)
      held-still =
          let h = k.held u within in
          record { user = h.user; size = h.size; on = λ f. h.on f ∙ ap₂ (λ a b. is_some a && (nat_lt f (length r.counts) && b)) (sym same-sites.ipmodify) (sym (same-sites.at f)) }

      held-at : (v : ℕ) → v < length r.users.items → IsHolderOf (length r.counts) v (user_of (set r.users.items u y) v) (get_or r.holders.items v no_holder)
      held-at v small = elim (cases_eq v u) [
        | inl i ↦ subst (λ (w : ℕ). IsHolderOf (length r.counts) w (user_of (set r.users.items u y) w) (get_or r.holders.items w no_holder)) (sym i)
            (subst (λ (w : User). IsHolderOf (length r.counts) u w (get_or r.holders.items u no_holder)) (sym (get_or-set_same r.users.items u y no_user within)) held-still)
        | inr ne ↦ subst (λ (w : User). IsHolderOf (length r.counts) v w (get_or r.holders.items v no_holder)) (sym (get_or-set_other r.users.items u v y no_user ne)) (k.held v small)
      ]
