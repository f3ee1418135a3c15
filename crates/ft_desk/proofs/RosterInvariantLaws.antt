-- A roster keeps its rule while one user changes.
use Rattle.std.proofs.Common.{cond, ◌≡◌, ℕ, suc, ◌<◌, ◌≤◌, Bool, List, length, set, get_or, is_some, refl, sym, ap, ap₂, ◌∙◌, subst, arith, inl, inr, length-set, get_or-set_same, get_or-set_other}
use Rattle.std.proofs.lemmas.Bool.{cases_eq}
use Rattle.std.proofs.lemmas.List.{get_or_read}
use Rattle.ft_base.specs.declared.limits.TheConstants.{USERS}
use Rattle.ft_base.specs.Marks.{Marks, holds, union, difference}
use Rattle.ft_base.specs.Desk.{target}
use Rattle.ipmodify.specs.declared.conflicts.Holder.{Holder}
use Rattle.site_counts.specs.declared.rows.Row.{Row}
use Rattle.site_counts.specs.Rows.{row_of}
use Rattle.ft_desk.specs.declared.user.User.{User}
use Rattle.ft_desk.specs.declared.roster.Roster.TheInside.{Inside}
use Rattle.word_map.specs.Instructions.{insn_at}
use Rattle.ft_desk.specs.Sites.{changed_sites}
use Rattle.ft_desk.specs.Users.{desk_by, insn_by, no_user, one_at, ran_by, row_by, sum_over, total_by, user_of}
use Rattle.ft_desk.specs.Moves.{moved, moved_row, MayMove, TellsOne, insn_before, insn_after}
use Rattle.ft_desk.specs.RosterInvariant.{IsHolderOf, RosterInvariant, IsRoom, IsSized, no_holder}
use Rattle.ft_desk.proofs.SiteLaws.{changed-ext}
use Rattle.ft_desk.proofs.SumLaws.{ran-is}
use Rattle.ft_desk.proofs.RosterLaws.{tells-one, SameKind, SameSlots, IsMove, may-move-at, row-moved, total-moved, insn-known, held-after}

moved-rows : (a a' b b' asks changes : Bool) (row row' : Row) → a ≡ a' → b ≡ b' → row ≡ row' → moved_row a b asks changes row ≡ moved_row a' b' asks changes row'
moved-rows a a' b b' asks changes row row' ea eb er = rw (ea, eb, er) refl

moved-numbers : (a a' b b' : Bool) (k n n' : ℕ) → a ≡ a' → b ≡ b' → n ≡ n' → moved a b k n ≡ moved a' b' k n'
moved-numbers a a' b b' k n n' ea eb en = rw (ea, eb, en) refl

-- what is counted at a function tells its instruction
module _ (r : Inside) (k : RosterInvariant r) (users : List User) (f total : ℕ) (row : Row) (small : f < length r.counts) (eu : users ≡ r.users.items)
    (er : row ≡ row_of r.counts f) (et : total ≡ get_or r.totals.items f total) where
  total-is : total ≡ total_by r.users.items f
  total-is = get_or_read r.totals.items f total (let e = k.numbered in omega (arith, e, small)) et 0 ∙ k.totals f small

  count-is : row.count ≡ sum_over (one_at f) 0 r.users.items
  count-is = ap (λ (w : Row). w.count) (er ∙ k.rows f small)

  pub insn-here : insn_by users row.count total ≡ insn_at (desk_by r.users.items) f
  insn-here = ap (λ (us : List User). insn_by us row.count total) eu ∙ insn-known r.users.items r.users.items f row.count total (λ v there. refl) count-is total-is

  -- and what a call of it runs
  pub ran-here : ran_by users row.count total ≡ target (desk_by r.users.items) f
  ran-here = ap (λ (us : List User). ran_by us row.count total) eu ∙ ap₂ (ran_by r.users.items) count-is total-is ∙ sym (ran-is r.users.items f)

  pub tells-here : TellsOne (length users) row.count total
  tells-here e =
      let t = tells-one r.users.items f (sym count-is ∙ e) in
      let a = total-is in
      let b : length users ≡ length r.users.items = ap length eu in
      (omega (arith, t.0, a), omega (arith, t.1, a, b))

module _ (r : Inside) (k : RosterInvariant r) (u : ℕ) (y : User) (came left : Marks) (within : u < length r.users.items)
    (same : SameKind (user_of r.users.items u) y) (move : IsMove (length r.counts) (user_of r.users.items u) y came left) where
  few : length r.users.items ≤ USERS
  few = k.few

  -- the user may move
  pub moves : (now : List User) → length now ≡ length r.users.items → (user_of now u).regs ≡ y.regs → is_some (user_of now u).ipmodify ≡ is_some y.ipmodify
      → (f : ℕ) → f < length r.counts
      → MayMove (length now) u (holds came f) (holds left f) (user_of now u).regs (is_some (user_of now u).ipmodify) (row_of r.counts f) (get_or r.totals.items f 0)
  moves now en er em f small =
      may-move-at r.users.items u y f within few same (length now) (row_of r.counts f) (get_or r.totals.items f 0) (holds came f) (holds left f)
      (user_of now u).regs (is_some (user_of now u).ipmodify) en (k.rows f small) (k.totals f small) (move.comes f small) (move.leaves f small) er em

  row-after : (f : ℕ) → f < length r.counts → moved_row (holds came f) (holds left f) y.regs (is_some y.ipmodify) (row_of r.counts f) ≡ row_by (set r.users.items u y) f
  row-after f small = moved-rows _ _ _ _ y.regs (is_some y.ipmodify) _ _ (move.comes f small) (move.leaves f small) (k.rows f small)
      ∙ row-moved r.users.items u y f within few same

  total-after : (f : ℕ) → f < length r.counts → moved (holds came f) (holds left f) (suc u) (get_or r.totals.items f 0) ≡ total_by (set r.users.items u y) f
  total-after f small = moved-numbers _ _ _ _ (suc u) _ _ (move.comes f small) (move.leaves f small) (k.totals f small)
      ∙ total-moved r.users.items u y f within few same

  -- the sites that change are those of the desk
  pub sites-are : (now : List User) → ((f : ℕ) → SameSlots f r.users.items now) → ((f : ℕ) → SameSlots f (set r.users.items u y) now)
      → changed_sites (insn_before now r.counts r.totals.items) (insn_after now r.counts r.totals.items u came left) 0 (length r.counts)
      ≡ changed_sites (insn_at (desk_by r.users.items)) (insn_at (desk_by (set r.users.items u y))) 0 (length r.counts)
  sites-are now before after =
      changed-ext _ _ _ _ 0 (length r.counts)
      (λ f h. let small : f < length r.counts = omega arith in
      insn-known r.users.items now f _ _ (before f) (ap (λ (w : Row). w.count) (k.rows f small)) (k.totals f small))
      (λ f h. let small : f < length r.counts = omega arith in
      insn-known (set r.users.items u y) now f _ _ (after f) (ap (λ (w : Row). w.count) (row-after f small)) (total-after f small))

  module _ (r' : Inside) (h' : Holder) (sized : IsSized (length r.counts) y.pair)
      (users' : r'.users.items ≡ set r.users.items u y) (size' : length r'.counts ≡ length r.counts)
      (rows' : (f : ℕ) → f < length r.counts → row_of r'.counts f ≡ moved_row (holds came f) (holds left f) y.regs (is_some y.ipmodify) (row_of r.counts f))
      (totals' : (f : ℕ) → f < length r.counts → get_or r'.totals.items f 0 ≡ moved (holds came f) (holds left f) (suc u) (get_or r.totals.items f 0))
      (numbered' : length r'.totals.items ≡ length r.totals.items)
      (holders' : r'.holders.items ≡ set r.holders.items u h')
      (user' : h'.user ≡ (get_or r.holders.items u no_holder).user)
      (on' : h'.on ≡ cond (is_some y.ipmodify) (union (difference (get_or r.holders.items u no_holder).on left) came) (get_or r.holders.items u no_holder).on)
      (room' : IsRoom (length r.counts) r'.room) where
    n' : length r'.users.items ≡ length r.users.items
    n' = ap length users' ∙ length-set r.users.items u y

    pair-at : (v : ℕ) → v < length r.users.items → IsSized (length r.counts) (user_of (set r.users.items u y) v).pair
    pair-at v small = elim (cases_eq v u) [
      | inl e ↦ subst (λ (z : User). IsSized (length r.counts) z.pair) (sym (ap (λ i. user_of (set r.users.items u y) i) e ∙ get_or-set_same r.users.items u y no_user within)) sized
      | inr ne ↦ subst (λ (z : User). IsSized (length r.counts) z.pair) (sym (get_or-set_other r.users.items u v y no_user ne)) (k.pairs v small)
    ]

    held-at : (v : ℕ) → v < length r.users.items
        → IsHolderOf (length r.counts) v (user_of (set r.users.items u y) v) (get_or (set r.holders.items u h') v no_holder)
    held-at v small = elim (cases_eq v u) [
      | inl e ↦ subst (λ i. IsHolderOf (length r.counts) i (user_of (set r.users.items u y) i) (get_or (set r.holders.items u h') i no_holder)) (sym e)
          (subst (λ (z : User). IsHolderOf (length r.counts) u z (get_or (set r.holders.items u h') u no_holder)) (sym (get_or-set_same r.users.items u y no_user within))
          (subst (λ (z : Holder). IsHolderOf (length r.counts) u y z) (sym (get_or-set_same r.holders.items u h' no_holder (let e = k.holders in omega (arith, e, within))))
          (held-after (length r.counts) u (user_of r.users.items u) y came left (get_or r.holders.items u no_holder) h' move same (k.held u within) user' on')))
      | inr ne ↦ subst (λ (z : User). IsHolderOf (length r.counts) v z (get_or (set r.holders.items u h') v no_holder)) (sym (get_or-set_other r.users.items u v y no_user ne))
          (subst (λ (z : Holder). IsHolderOf (length r.counts) v (user_of r.users.items v) z) (sym (get_or-set_other r.holders.items u v h' no_holder ne)) (k.held v small))
    ]

    pub kept-after : RosterInvariant r'
    kept-after = record {
      few = (let a = few in omega (arith, a, n'));
      pairs = λ v small. subst (λ n. IsSized n (user_of r'.users.items v).pair) (sym size')
          (subst (λ (us : List User). IsSized (length r.counts) (user_of us v).pair) (sym users') (pair-at v (omega (arith, n', small))));
      rows = λ f small. rows' f (omega (arith, size', small)) ∙ row-after f (omega (arith, size', small)) ∙ ap (λ (us : List User). row_by us f) (sym users');
      totals = λ f small. totals' f (omega (arith, size', small)) ∙ total-after f (omega (arith, size', small)) ∙ ap (λ (us : List User). total_by us f) (sym users');
      numbered = numbered' ∙ k.numbered ∙ sym size';
      holders = ap length holders' ∙ length-set r.holders.items u h' ∙ k.holders ∙ sym n';
      held = λ v small. subst (λ n. IsHolderOf n v (user_of r'.users.items v) (get_or r'.holders.items v no_holder)) (sym size')
          (subst (λ (us : List User). IsHolderOf (length r.counts) v (user_of us v) (get_or r'.holders.items v no_holder)) (sym users')
          (subst (λ (hs : List Holder). IsHolderOf (length r.counts) v (user_of (set r.users.items u y) v) (get_or hs v no_holder)) (sym holders')
          (held-at v (omega (arith, n', small)))));
      room = subst (λ n. IsRoom n r'.room) (sym size') room';
    }
