-- The steps of a roster by which one user changes.
use Rattle.std.proofs.Common.{cond, ◌≡◌, ℕ, suc, ◌<◌, true, false, List, length, set, get_or, Option, is_some, sym, ap, ap₂, ◌∙◌, subst, arith, length-set, get_or-set_same}
use Rattle.std.specs.Vec.{with_items}
use Rattle.std.specs.Global.{Vec}
use Rattle.std.proofs.lemmas.List.{get_or_read, with_items_is}
use Rattle.ft_base.specs.Marks.{Marks, holds, empty, union, difference}
use Rattle.ft_base.specs.Desk.{matches_by}
use Rattle.site_set.proofs.MarksLemmas.{holds-empty, length-empty}
use Rattle.filter_hash.specs.Pair.{Pair, size_of}
use Rattle.ipmodify.specs.declared.conflicts.Holder.{Holder}
use Rattle.site_bytes.specs.declared.insn.SiteChange.{SiteChange}
use Rattle.site_counts.specs.Rows.{row_of}
use Rattle.ft_desk.specs.declared.user.User.{User}
use Rattle.ft_desk.specs.declared.roster.Roster.TheInside.{Inside}
use Rattle.word_map.specs.Instructions.{insn_at}
use Rattle.ft_desk.specs.Sites.{changed_sites}
use Rattle.ft_desk.specs.Users.{desk_by, enrolled, retired, no_user, user_of}
use Rattle.ft_desk.specs.Moves.{moved, moved_row, MayMove, insn_before, insn_after}
use Rattle.ft_desk.specs.RosterInvariant.{RosterInvariant, IsRoom, IsSized, no_holder}
use Rattle.ft_desk.proofs.RosterLaws.{SameKind, SameSlots, IsMove}
use Rattle.ft_desk.proofs.RosterInvariantLaws.{moves, kept-after, sites-are}
use Rattle.ft_desk.proofs.ChangeLaws.{enrolls, retires, off, slots-same, slots-without, slots-with}

same_enrolled : (since : ℕ) (slot : Option ℕ) (x y : User) → y ≡ enrolled since slot x → SameKind x y
same_enrolled since slot x y e = record { regs = ap (λ (z : User). z.regs) e; ipmodify = ap (λ (z : User). z.ipmodify) e }

same_retired : (x y : User) → y ≡ retired x → SameKind x y
same_retired x y e = record { regs = ap (λ (z : User). z.regs) e; ipmodify = ap (λ (z : User). z.ipmodify) e }

-- one user becomes y, comes to some functions and leaves others; `now` is the list of users that the counting was given
pub record IsStep (r : Inside) (u : ℕ) (y : User) (came left : Marks) (now : List User) : Type 0 where
  pub within : u < length r.users.items
  pub same : SameKind (user_of r.users.items u) y
  pub sized : IsSized (length r.counts) y.pair
  pub move : IsMove (length r.counts) (user_of r.users.items u) y came left
  pub size : length now ≡ length r.users.items
  pub regs : (user_of now u).regs ≡ y.regs
  pub ipmodify : (user_of now u).ipmodify ≡ y.ipmodify
  pub before : (f : ℕ) → SameSlots f r.users.items now
  pub after : (f : ℕ) → SameSlots f (set r.users.items u y) now

module _ (r : Inside) (k : RosterInvariant r) (u : ℕ) (y : User) (came left : Marks) (now : List User) (s : IsStep r u y came left now) (totals : List ℕ)
    (et : totals ≡ r.totals.items) where
  pub step-moves : (f : ℕ) → f < length r.counts
      → MayMove (length now) u (holds came f) (holds left f) (user_of now u).regs (is_some (user_of now u).ipmodify) (row_of r.counts f) (get_or totals f 0)
  step-moves f small =
      subst (λ (ts : List ℕ). MayMove (length now) u (holds came f) (holds left f) (user_of now u).regs (is_some (user_of now u).ipmodify) (row_of r.counts f) (get_or ts f 0)) (sym et)
      (moves r k u y came left s.within s.same s.move now s.size s.regs (ap is_some s.ipmodify) f small)

  pub step-sites : (sites : List SiteChange)
      → sites ≡ changed_sites (insn_before now r.counts totals) (insn_after now r.counts totals u came left) 0 (length r.counts)
      → sites ≡ changed_sites (insn_at (desk_by r.users.items)) (insn_at (desk_by (set r.users.items u y))) 0 (length r.counts)
  step-sites sites es = es
      ∙ ap (λ (ts : List ℕ). changed_sites (insn_before now r.counts ts) (insn_after now r.counts ts u came left) 0 (length r.counts)) et
      ∙ sites-are r k u y came left s.within s.same s.move now s.before s.after

  pub step-kept : (r' : Inside) (h h' : Holder) (new : List ℕ) → r'.users.items ≡ set r.users.items u y
      → length r'.counts ≡ length r.counts
      → ((f : ℕ) → f < length r.counts → row_of r'.counts f ≡ moved_row (holds came f) (holds left f) (user_of now u).regs (is_some (user_of now u).ipmodify) (row_of r.counts f))
      → r'.totals ≡ with_items r.totals new → length new ≡ length totals
      → ((f : ℕ) → f < length r.counts → get_or new f 0 ≡ moved (holds came f) (holds left f) (suc u) (get_or totals f 0))
      → r'.holders.items ≡ set r.holders.items u h' → h ≡ get_or r.holders.items u h → h'.user ≡ h.user
      → h'.on ≡ cond (is_some (user_of now u).ipmodify) (union (difference h.on left) came) h.on
      → IsRoom (length r.counts) r'.room → RosterInvariant r'
  step-kept r' h h' new eu size rows ew long news eh at_h user on room =
      let hold : h ≡ get_or r.holders.items u no_holder = get_or_read r.holders.items u h (let e = k.holders in let w = s.within in omega (arith, e, w)) at_h no_holder in
      let full : length new ≡ r.totals.len = (let a = ap length et in let b = r.totals.ok.0 in omega (arith, a, b, long)) in
      let written : r'.totals.items ≡ new = ap (λ (v : Vec ℕ). v.items) ew ∙ with_items_is r.totals new full in
      kept-after r k u y came left s.within s.same s.move r' h' s.sized eu size
      (λ f small. rows f small ∙ ap₂ (λ b c. moved_row (holds came f) (holds left f) b (is_some c) (row_of r.counts f)) s.regs s.ipmodify)
      (λ f small. ap (λ (ts : List ℕ). get_or ts f 0) written ∙ news f small
      ∙ ap (λ (ts : List ℕ). moved (holds came f) (holds left f) (suc u) (get_or ts f 0)) et)
      (ap length written ∙ long ∙ ap length et) eh (user ∙ ap (λ (w : Holder). w.user) hold)
      (on ∙ ap₂ (λ b (g : Holder). cond (is_some b) (union (difference g.on left) came) g.on) s.ipmodify hold) room

-- ## a user is registered: y is the user as it is then, and z the one whose sets are matched

module _ (r : Inside) (k : RosterInvariant r) (u since : ℕ) (slot : Option ℕ) (x y z : User) (came left : Marks) (within : u < length r.users.items)
    (ex : x ≡ get_or r.users.items u x) (ey : y ≡ enrolled since slot x) (ez : z ≡ get_or (set r.users.items u y) u z)
    (not_yet : (user_of r.users.items u).registered ≡ false)
    (members : (f : ℕ) → f < size_of z.pair → holds came f ≡ matches_by z.pair.filter z.pair.notrace f)
    (came_size : length came ≡ length r.room.came) (left_is : left ≡ empty (length r.room.left)) (now : List User) (en : now ≡ set r.users.items u y) where
  made : y ≡ enrolled since slot (user_of r.users.items u)
  made = ey ∙ ap (enrolled since slot) (get_or_read r.users.items u x within ex no_user)

  -- its sets are as they were
  pairs : z.pair ≡ (user_of r.users.items u).pair
  pairs = ap (λ (w : User). w.pair) (get_or_read (set r.users.items u y) u z (let e = length-set r.users.items u y in omega (arith, e, within)) ez no_user
      ∙ get_or-set_same r.users.items u y no_user within) ∙ ap (λ (w : User). w.pair) made

  members-at : (f : ℕ) → f < length r.counts → holds came f ≡ matches_by (user_of r.users.items u).pair.filter (user_of r.users.items u).pair.notrace f
  members-at f small =
      let size : size_of z.pair ≡ length r.counts = ap size_of pairs ∙ (k.pairs u within).filter in
      members f (omega (arith, size, small)) ∙ ap (λ (p : Pair). matches_by p.filter p.notrace f) pairs

  here : user_of now u ≡ y
  here = ap (λ (us : List User). user_of us u) en ∙ get_or-set_same r.users.items u y no_user within

  pub enroll-step : IsStep r u y came left now
  enroll-step = record {
    within = within;
    same = same_enrolled since slot (user_of r.users.items u) y made;
    sized = subst (λ (p : Pair). IsSized (length r.counts) p) (sym (ap (λ (w : User). w.pair) made)) (k.pairs u within);
    move = enrolls (length r.counts) (user_of r.users.items u) y came left (came_size ∙ k.room.came)
        (ap length left_is ∙ length-empty (length r.room.left) ∙ k.room.left) since slot made not_yet members-at
        (λ f. ap (λ (s : Marks). holds s f) left_is ∙ holds-empty (length r.room.left) f);
    size = ap length en ∙ length-set r.users.items u y;
    regs = ap (λ (w : User). w.regs) here;
    ipmodify = ap (λ (w : User). w.ipmodify) here;
    before = λ f. subst (λ (us : List User). SameSlots f r.users.items us) (sym en) (slots-without f u r.users.items y within (off (user_of r.users.items u) f not_yet));
    after = λ f. subst (λ (us : List User). SameSlots f (set r.users.items u y) us) (sym en) (slots-same f (set r.users.items u y));
  }

-- ## a user is unregistered: z is the user before, whose sets are matched, and x the same; y is the user after

module _ (r : Inside) (k : RosterInvariant r) (u : ℕ) (x y z : User) (came left : Marks) (within : u < length r.users.items)
    (ex : x ≡ get_or r.users.items u x) (ey : y ≡ retired x) (ez : z ≡ get_or r.users.items u z)
    (there : (user_of r.users.items u).registered ≡ true)
    (members : (f : ℕ) → f < size_of z.pair → holds left f ≡ matches_by z.pair.filter z.pair.notrace f)
    (left_size : length left ≡ length r.room.left) (came_is : came ≡ empty (length r.room.came)) (now : List User) (en : now ≡ r.users.items) where
  gone : y ≡ retired (user_of r.users.items u)
  gone = ey ∙ ap retired (get_or_read r.users.items u x within ex no_user)

  old-pair : z.pair ≡ (user_of r.users.items u).pair
  old-pair = ap (λ (w : User). w.pair) (get_or_read r.users.items u z within ez no_user)

  left-at : (f : ℕ) → f < length r.counts → holds left f ≡ matches_by (user_of r.users.items u).pair.filter (user_of r.users.items u).pair.notrace f
  left-at f small =
      let size : size_of z.pair ≡ length r.counts = ap size_of old-pair ∙ (k.pairs u within).filter in
      members f (omega (arith, size, small)) ∙ ap (λ (p : Pair). matches_by p.filter p.notrace f) old-pair

  was : user_of now u ≡ user_of r.users.items u
  was = ap (λ (us : List User). user_of us u) en

  pub retire-step : IsStep r u y came left now
  retire-step = record {
    within = within;
    same = same_retired (user_of r.users.items u) y gone;
    sized = subst (λ (p : Pair). IsSized (length r.counts) p) (sym (ap (λ (w : User). w.pair) gone)) (k.pairs u within);
    move = retires (length r.counts) (user_of r.users.items u) y came left (ap length came_is ∙ length-empty (length r.room.came) ∙ k.room.came)
        (left_size ∙ k.room.left) gone there left-at (λ f. ap (λ (s : Marks). holds s f) came_is ∙ holds-empty (length r.room.came) f);
    size = ap length en;
    regs = ap (λ (w : User). w.regs) was ∙ sym (ap (λ (w : User). w.regs) gone);
    ipmodify = ap (λ (w : User). w.ipmodify) was ∙ sym (ap (λ (w : User). w.ipmodify) gone);
    before = λ f. subst (λ (us : List User). SameSlots f r.users.items us) (sym en) (slots-same f r.users.items);
    after = λ f. subst (λ (us : List User). SameSlots f (set r.users.items u y) us) (sym en) (slots-with f u r.users.items y within (off y f (ap (λ (w : User). w.registered) gone)));
  }
