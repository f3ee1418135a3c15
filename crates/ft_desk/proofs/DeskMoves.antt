-- A desk keeps its rule while a user is registered or unregistered.
use Rattle.std.proofs.Common.{cond, ◌≡◌, ◌≢◌, ℕ, zero, suc, ◌+◌, ◌<◌, ◌≤◌, ◌⊎◌, ◌==◌, Bool, true, false, not, List, [], ◌∷◌, length, set, Option, Some, None, is_some, refl, sym, ap, ◌∙◌, arith, inl, inr, length-set, get_or-set_same, get_or-set_other, vec_capacity, eqb-true}
use Rattle.std.specs.List.{filter}
use Rattle.std.proofs.lemmas.Bool.{cases_eq, cases_lt}
use Rattle.std.proofs.lemmas.List.{get_or_past}
use Rattle.std.proofs.lemmas.Bool.Decides.{eqb_tells}
use Rattle.ft_base.specs.declared.number.UserNo.{UserNo}
use Rattle.ft_base.proofs.Small.{false_true, ==-refl}
use Rattle.tramp_slots.specs.Holders.{Holders, holder_of, is_free_slot}
use Rattle.ft_desk.specs.declared.user.User.{User}
use Rattle.ft_desk.specs.declared.desk.Desk.TheInside.{Inside}
use Rattle.ft_desk.specs.DeskInvariant.{DeskInvariant, times}
use Rattle.word_map.specs.Contents.{digit}
use Rattle.ft_desk.specs.Plans.{user_no}
use Rattle.ft_desk.specs.Users.{enrolled, no_user, retired, user_of}

-- ## how many pass a test

pub filter-more : (p : User → Bool) (users : List User) (u : ℕ) (y : User) → u < length users → p (user_of users u) ≡ false → p y ≡ true
    → length (filter p (set users u y)) ≡ suc (length (filter p users))
filter-more p [] u y h a b = absurd (omega arith)
filter-more p (x ∷ users) zero y h a b = rw (a, b) refl
filter-more p (x ∷ users) (suc u) y h a b = by (p x) (filter-more p users u y (omega arith) a b)
  where
    by : (c : Bool) → length (filter p (set users u y)) ≡ suc (length (filter p users))
        → length (cond c (x ∷ filter p (set users u y)) (filter p (set users u y))) ≡ suc (length (cond c (x ∷ filter p users) (filter p users)))
    by true r = ap suc r
    by false r = r

pub filter-less : (p : User → Bool) (users : List User) (u : ℕ) (y : User) → u < length users → p (user_of users u) ≡ true → p y ≡ false
    → suc (length (filter p (set users u y))) ≡ length (filter p users)
filter-less p [] u y h a b = absurd (omega arith)
filter-less p (x ∷ users) zero y h a b = rw (a, b) refl
filter-less p (x ∷ users) (suc u) y h a b = by (p x) (filter-less p users u y (omega arith) a b)
  where
    by : (c : Bool) → suc (length (filter p (set users u y))) ≡ length (filter p users)
        → suc (length (cond c (x ∷ filter p (set users u y)) (filter p (set users u y)))) ≡ length (cond c (x ∷ filter p users) (filter p users))
    by true r = ap suc r
    by false r = r

filter-all : (p : User → Bool) (users : List User) → length (filter p users) ≤ length users
filter-all p [] = omega arith
filter-all p (x ∷ users) = by (p x) (filter-all p users)
  where
    by : (c : Bool) → length (filter p users) ≤ length users → length (cond c (x ∷ filter p users) (filter p users)) ≤ suc (length users)
    by true r = omega (arith, r)
    by false r = omega (arith, r)

-- there is room in a list of the registered users for one that is not
pub filter-room : (p : User → Bool) (users : List User) (u : ℕ) → u < length users → p (user_of users u) ≡ false → length (filter p users) < length users
filter-room p [] u h a = absurd (omega arith)
filter-room p (x ∷ users) zero h a = rw a (let z = filter-all p users in omega (arith, z))
filter-room p (x ∷ users) (suc u) h a = by (p x) (filter-room p users u (omega arith) a)
  where
    by : (c : Bool) → length (filter p users) < length users → length (cond c (x ∷ filter p users) (filter p users)) < suc (length users)
    by true r = omega (arith, r)
    by false r = omega (arith, r)

-- ## registered

module _ (d d' : Inside) (k : DeskInvariant d) (user : UserNo) (since : ℕ) (slot : Option ℕ) (within : user.0 < length d.roster.users)
    (not_yet : (user_of d.roster.users user.0).registered ≡ false)
    (eu : d'.roster.users ≡ set d.roster.users user.0 (enrolled since slot (user_of d.roster.users user.0))) (ef : d'.roster.funcs ≡ d.roster.funcs)
    (some : (s : ℕ) → slot ≡ Some s → (s < length d.slots) × (is_free_slot d.slots s ≡ true) × (d'.slots ≡ set d.slots s (Some user)))
    (none : slot ≡ None → d'.slots ≡ d.slots) (eo : d'.order.items ≡ user ∷ d.order.items) (room : vec_capacity d.order ≤ vec_capacity d'.order)
    (ep : d'.pids ≡ d.pids) (ec : vec_capacity d'.plan.sites ≡ vec_capacity d.plan.sites) (en : d'.commands ≡ suc d.commands) where
  y-at : user_of d'.roster.users user.0 ≡ enrolled since slot (user_of d.roster.users user.0)
  y-at = ap (λ (us : List User). user_of us user.0) eu ∙ get_or-set_same d.roster.users user.0 _ no_user within

  others : (v : ℕ) → v ≢ user.0 → user_of d'.roster.users v ≡ user_of d.roster.users v
  others v ne = ap (λ (us : List User). user_of us v) eu ∙ get_or-set_other d.roster.users user.0 v _ no_user ne

  -- a slot that somebody holds is still held by the same
  still : (s : ℕ) (v : UserNo) → holder_of d.slots s ≡ Some v → holder_of d'.slots s ≡ Some v
  still s v h = by slot refl
    where
      by : (o : Option ℕ) → slot ≡ o → holder_of d'.slots s ≡ Some v
      by None e = ap (λ (hs : Holders). holder_of hs s) (none e) ∙ h
      by (Some t) e =
          let f = some t e in
          let ne : s ≢ t = λ q. (let no : true ≡ false = sym f.1 ∙ ap (is_free_slot d.slots) (sym q) ∙ ap (λ o. not (is_some o)) h in absurd cc) in
          ap (λ (hs : Holders). holder_of hs s) f.2 ∙ get_or-set_other d.slots t s (Some user) None ne ∙ h

  -- a slot that is held is that of the user, or was held before
  was : (s : ℕ) (v : UserNo) → holder_of d'.slots s ≡ Some v → ((slot ≡ Some s) × (v ≡ user)) ⊎ (holder_of d.slots s ≡ Some v)
  was s v h = by slot refl
    where
      by : (o : Option ℕ) → slot ≡ o → ((slot ≡ Some s) × (v ≡ user)) ⊎ (holder_of d.slots s ≡ Some v)
      by None e = inr (sym (ap (λ (hs : Holders). holder_of hs s) (none e)) ∙ h)
      by (Some t) e = elim (cases_eq s t) [
        | inl q ↦ (let f = some t e in
            let own : holder_of d'.slots s ≡ Some user = ap (λ (hs : Holders). holder_of hs s) f.2 ∙ ap (λ i. holder_of (set d.slots t (Some user)) i) q ∙ get_or-set_same d.slots t (Some user) None f.0 in
            let same : Some user ≡ Some v = sym own ∙ h in inl (e ∙ ap Some (sym q), cc))
        | inr ne ↦ (let f = some t e in inr (sym (ap (λ (hs : Holders). holder_of hs s) f.2 ∙ get_or-set_other d.slots t s (Some user) None ne) ∙ h))
      ]

  n' : length d'.roster.users ≡ length d.roster.users
  n' = ap length eu ∙ length-set d.roster.users user.0 _

  held' : (v s : ℕ) → v < length d'.roster.users → (user_of d'.roster.users v).registered ≡ true → (user_of d'.roster.users v).slot ≡ Some s → holder_of d'.slots s ≡ Some (user_no v)
  held' v s small reg at = elim (cases_eq v user.0) [
    | inl q ↦ (let e : slot ≡ Some s = sym (ap (λ (x : User). x.slot) y-at) ∙ ap (λ (i : ℕ). (user_of d'.roster.users i).slot) (sym q) ∙ at in
        let f = some s e in ap (λ (hs : Holders). holder_of hs s) f.2 ∙ get_or-set_same d.slots s (Some user) None f.0 ∙ ap (λ i. Some (user_no i)) (sym q))
    | inr ne ↦ still s (user_no v) (k.slots.held v s (omega (arith, n', small)) (sym (ap (λ (x : User). x.registered) (others v ne)) ∙ reg) (sym (ap (λ (x : User). x.slot) (others v ne)) ∙ at))
  ]

  holds' : (v : UserNo) (s : ℕ) → holder_of d'.slots s ≡ Some v → (v.0 < length d'.roster.users) × ((user_of d'.roster.users v.0).registered ≡ true) × ((user_of d'.roster.users v.0).slot ≡ Some s)
  holds' v s h = elim (was s v h) [
    | inl m ↦ (let q : v.0 ≡ user.0 = ap (λ (w : UserNo). w.0) m.1 in (
      omega (arith, n', q, within),
      ap (λ (i : ℕ). (user_of d'.roster.users i).registered) q ∙ ap (λ (x : User). x.registered) y-at,
      ap (λ (i : ℕ). (user_of d'.roster.users i).slot) q ∙ ap (λ (x : User). x.slot) y-at ∙ m.0,
    ))
    | inr old ↦ (let z = k.slots.holds v s old in
        let ne : v.0 ≢ user.0 = λ q. false_true (sym (ap (λ (i : ℕ). (user_of d.roster.users i).registered) q ∙ not_yet) ∙ z.1) in
        ((let a = z.0 in omega (arith, n', a)), ap (λ (x : User). x.registered) (others v.0 ne) ∙ z.1, ap (λ (x : User). x.slot) (others v.0 ne) ∙ z.2))
  ]

  once' : (v : ℕ) → v < length d'.roster.users → times v d'.order.items ≡ digit (user_of d'.roster.users v).registered
  once' v small = ap (times v) eo ∙ elim (cases_eq v user.0) [
    | inl q ↦ (let t : (user.0 == v) ≡ true = ap (λ i. user.0 == i) q ∙ ==-refl user.0 in
        let zero-times : times v d.order.items ≡ 0 = k.listed.once v (omega (arith, n', small)) ∙ ap digit (ap (λ (i : ℕ). (user_of d.roster.users i).registered) q ∙ not_yet) in
        ap (λ b. length (cond b (user ∷ filter (λ w. w.0 == v) d.order.items) (filter (λ w. w.0 == v) d.order.items))) t ∙ ap suc zero-times
        ∙ sym (ap digit (ap (λ (i : ℕ). (user_of d'.roster.users i).registered) q ∙ ap (λ (x : User). x.registered) y-at)))
    | inr ne ↦ (let t : (user.0 == v) ≡ false = elim (eqb_tells user.0 v) [ inl x ↦ absurd (ne (sym x.1)) | inr x ↦ x.0 ] in
        ap (λ b. length (cond b (user ∷ filter (λ w. w.0 == v) d.order.items) (filter (λ w. w.0 == v) d.order.items))) t
        ∙ k.listed.once v (omega (arith, n', small)) ∙ ap digit (sym (ap (λ (x : User). x.registered) (others v ne))))
  ]

  numbers' : (v : ℕ) → v < length d'.roster.users → (user_of d'.roster.users v).reg ≤ d'.commands
  numbers' v small = elim (cases_eq v user.0) [
    | inl q ↦ (let a = k.numbers user.0 within in let b : (user_of d'.roster.users v).reg ≡ suc (user_of d.roster.users user.0).reg = ap (λ (i : ℕ). (user_of d'.roster.users i).reg) q ∙ ap (λ (x : User). x.reg) y-at in omega (arith, a, b, en))
    | inr ne ↦ (let a = k.numbers v (omega (arith, n', small)) in let b : (user_of d'.roster.users v).reg ≡ (user_of d.roster.users v).reg = ap (λ (x : User). x.reg) (others v ne) in omega (arith, a, b, en))
  ]

  pub kept-enrolled : DeskInvariant d'
  kept-enrolled = record {
    slots = record { held = held'; holds = holds' };
    listed = record {
      once = once';
      size = ap length eo ∙ ap suc k.listed.size
          ∙ sym (ap (λ (us : List User). length (filter (λ (x : User). x.registered) us)) eu ∙ filter-more (λ (x : User). x.registered) d.roster.users user.0 _ within not_yet refl);
    };
    list_room = (let a = k.list_room in omega (arith, n', a, room));
    site_room = (let a = k.site_room in omega (arith, ef, ec, a));
    lists = rw ep k.lists;
    numbers = numbers';
  }

-- ## unregistered

times-without : (u v : ℕ) (order : List UserNo) → v ≢ u → times v (filter (λ w. not (w.0 == u)) order) ≡ times v order
times-without u v [] ne = refl
times-without u v (w ∷ order) ne = by (w.0 == u) (w.0 == v) refl refl (times-without u v order ne)
  where
    by : (a b : Bool) → (w.0 == u) ≡ a → (w.0 == v) ≡ b → times v (filter (λ w. not (w.0 == u)) order) ≡ times v order
        → times v (cond (not a) (w ∷ filter (λ w. not (w.0 == u)) order) (filter (λ w. not (w.0 == u)) order)) ≡ length (cond b (w ∷ filter (λ x. x.0 == v) order) (filter (λ x. x.0 == v) order))
    by true true ea eb r = absurd (ne (sym (eqb-true w.0 v eb) ∙ eqb-true w.0 u ea))
    by true false ea eb r = r
    by false true ea eb r = ap (λ b. length (cond b (w ∷ filter (λ x. x.0 == v) (filter (λ w. not (w.0 == u)) order)) (filter (λ x. x.0 == v) (filter (λ w. not (w.0 == u)) order)))) eb ∙ ap suc r
    by false false ea eb r = ap (λ b. length (cond b (w ∷ filter (λ x. x.0 == v) (filter (λ w. not (w.0 == u)) order)) (filter (λ x. x.0 == v) (filter (λ w. not (w.0 == u)) order)))) eb ∙ r

times-gone : (u : ℕ) (order : List UserNo) → times u (filter (λ w. not (w.0 == u)) order) ≡ 0
times-gone u [] = refl
times-gone u (w ∷ order) = by (w.0 == u) refl (times-gone u order)
  where
    by : (a : Bool) → (w.0 == u) ≡ a → times u (filter (λ w. not (w.0 == u)) order) ≡ 0
        → times u (cond (not a) (w ∷ filter (λ w. not (w.0 == u)) order) (filter (λ w. not (w.0 == u)) order)) ≡ 0
    by true e r = r
    by false e r = ap (λ b. length (cond b (w ∷ filter (λ x. x.0 == u) (filter (λ w. not (w.0 == u)) order)) (filter (λ x. x.0 == u) (filter (λ w. not (w.0 == u)) order)))) e ∙ r

length-without : (u : ℕ) (order : List UserNo) → length (filter (λ w. not (w.0 == u)) order) + times u order ≡ length order
length-without u [] = refl
length-without u (w ∷ order) = by (w.0 == u) (length-without u order)
  where
    by : (a : Bool) → length (filter (λ w. not (w.0 == u)) order) + times u order ≡ length order
        → length (cond (not a) (w ∷ filter (λ w. not (w.0 == u)) order) (filter (λ w. not (w.0 == u)) order)) + length (cond a (w ∷ filter (λ x. x.0 == u) order) (filter (λ x. x.0 == u) order))
        ≡ suc (length order)
    by true r = omega (arith, r)
    by false r = omega (arith, r)

module _ (d d' : Inside) (k : DeskInvariant d) (user : UserNo) (slot : Option ℕ) (within : user.0 < length d.roster.users)
    (there : (user_of d.roster.users user.0).registered ≡ true) (at : slot ≡ (user_of d.roster.users user.0).slot)
    (eu : d'.roster.users ≡ set d.roster.users user.0 (retired (user_of d.roster.users user.0))) (ef : d'.roster.funcs ≡ d.roster.funcs)
    (some : (s : ℕ) → slot ≡ Some s → d'.slots ≡ set d.slots s None) (none : slot ≡ None → d'.slots ≡ d.slots)
    (eo : d'.order.items ≡ filter (λ v. not (v.0 == user.0)) d.order.items) (room : vec_capacity d'.order ≡ vec_capacity d.order)
    (ep : d'.pids ≡ d.pids) (ec : vec_capacity d'.plan.sites ≡ vec_capacity d.plan.sites) (en : d'.commands ≡ suc d.commands) where
  gone-at : user_of d'.roster.users user.0 ≡ retired (user_of d.roster.users user.0)
  gone-at = ap (λ (us : List User). user_of us user.0) eu ∙ get_or-set_same d.roster.users user.0 _ no_user within

  rest : (v : ℕ) → v ≢ user.0 → user_of d'.roster.users v ≡ user_of d.roster.users v
  rest v ne = ap (λ (us : List User). user_of us v) eu ∙ get_or-set_other d.roster.users user.0 v _ no_user ne

  m' : length d'.roster.users ≡ length d.roster.users
  m' = ap length eu ∙ length-set d.roster.users user.0 _

  -- another user still holds its slot
  keeps : (s : ℕ) (v : UserNo) → v.0 ≢ user.0 → holder_of d.slots s ≡ Some v → holder_of d'.slots s ≡ Some v
  keeps s v ne h = by slot refl
    where
      by : (o : Option ℕ) → slot ≡ o → holder_of d'.slots s ≡ Some v
      by None e = ap (λ (hs : Holders). holder_of hs s) (none e) ∙ h
      by (Some t) e =
          let own : holder_of d.slots t ≡ Some (user_no user.0) = k.slots.held user.0 t within there (sym at ∙ e) in
          let apart : s ≢ t = λ q. (let same : Some v ≡ Some (user_no user.0) = sym h ∙ ap (holder_of d.slots) q ∙ own in let w : v ≡ user_no user.0 = cc in ne (ap (λ (x : UserNo). x.0) w)) in
          ap (λ (hs : Holders). holder_of hs s) (some t e) ∙ get_or-set_other d.slots t s None None apart ∙ h

  -- a slot that is held was held by another user
  held-before : (s : ℕ) (v : UserNo) → holder_of d'.slots s ≡ Some v → (v.0 ≢ user.0) × (holder_of d.slots s ≡ Some v)
  held-before s v h = by slot refl
    where
      not-own : holder_of d.slots s ≡ Some v → ((user_of d.roster.users user.0).slot ≡ Some s → ⊥) → v.0 ≢ user.0
      not-own e never q = never (ap (λ (i : ℕ). (user_of d.roster.users i).slot) (sym q) ∙ (k.slots.holds v s e).2)

      by : (o : Option ℕ) → slot ≡ o → (v.0 ≢ user.0) × (holder_of d.slots s ≡ Some v)
      by None e =
          let old : holder_of d.slots s ≡ Some v = sym (ap (λ (hs : Holders). holder_of hs s) (none e)) ∙ h in
          (not-own old (λ q. (let no : None ≡ Some s = sym e ∙ at ∙ q in absurd cc)), old)
      by (Some t) e = elim (cases_eq s t) [
        | inl q ↦ (let own : holder_of d.slots t ≡ Some (user_no user.0) = k.slots.held user.0 t within there (sym at ∙ e) in
            let small : t < length d.slots = inside t (user_no user.0) own in
            let no : None ≡ Some v = sym (ap (λ (hs : Holders). holder_of hs s) (some t e) ∙ ap (λ i. holder_of (set d.slots t None) i) q ∙ get_or-set_same d.slots t None None small) ∙ h in absurd cc)
        | inr ne ↦ (let old : holder_of d.slots s ≡ Some v = sym (ap (λ (hs : Holders). holder_of hs s) (some t e) ∙ get_or-set_other d.slots t s None None ne) ∙ h in
            (not-own old (λ q. ne (let w : Some t ≡ Some s = sym e ∙ at ∙ q in cc)), old))
      ]
        where
          inside : (i : ℕ) (w : UserNo) → holder_of d.slots i ≡ Some w → i < length d.slots
          inside i w x = elim (cases_lt i (length d.slots)) [
            | inl y ↦ y
            | inr y ↦ (let no : None ≡ Some w = sym (get_or_past d.slots i None y) ∙ x in absurd cc)
          ]

  off-now : (user_of d'.roster.users user.0).registered ≡ false
  off-now = ap (λ (x : User). x.registered) gone-at

  pub kept-retired : DeskInvariant d'
  kept-retired = record {
    slots = record {
      held = λ v s small reg h. (let ne : v ≢ user.0 = λ q. false_true (sym off-now ∙ ap (λ (i : ℕ). (user_of d'.roster.users i).registered) (sym q) ∙ reg) in
          keeps s (user_no v) ne (k.slots.held v s (omega (arith, m', small)) (sym (ap (λ (x : User). x.registered) (rest v ne)) ∙ reg) (sym (ap (λ (x : User). x.slot) (rest v ne)) ∙ h)));
      holds = λ v s h. (let b = held-before s v h in let z = k.slots.holds v s b.1 in
          ((let a = z.0 in omega (arith, m', a)), ap (λ (x : User). x.registered) (rest v.0 b.0) ∙ z.1, ap (λ (x : User). x.slot) (rest v.0 b.0) ∙ z.2));
    };
    listed = record {
      once = λ v small. ap (times v) eo ∙ elim (cases_eq v user.0) [
        | inl q ↦ ap (λ i. times i (filter (λ w. not (w.0 == user.0)) d.order.items)) q ∙ times-gone user.0 d.order.items
            ∙ sym (ap digit (ap (λ (i : ℕ). (user_of d'.roster.users i).registered) q ∙ off-now))
        | inr ne ↦ times-without user.0 v d.order.items ne ∙ k.listed.once v (omega (arith, m', small)) ∙ ap digit (sym (ap (λ (x : User). x.registered) (rest v ne)))
      ];
      size = (let a = length-without user.0 d.order.items in
          let b : times user.0 d.order.items ≡ 1 = k.listed.once user.0 within ∙ ap digit there in
          let c = filter-less (λ (x : User). x.registered) d.roster.users user.0 (retired (user_of d.roster.users user.0)) within there refl in
          let e = k.listed.size in
          let f : length (filter (λ (x : User). x.registered) d'.roster.users) ≡ length (filter (λ (x : User). x.registered) (set d.roster.users user.0 (retired (user_of d.roster.users user.0)))) =
          ap (λ (us : List User). length (filter (λ (x : User). x.registered) us)) eu in
          let g : length d'.order.items ≡ length (filter (λ v. not (v.0 == user.0)) d.order.items) = ap length eo in
          omega (arith, a, b, c, e, f, g));
    };
    list_room = (let a = k.list_room in omega (arith, m', a, room));
    site_room = (let a = k.site_room in omega (arith, ef, ec, a));
    lists = rw ep k.lists;
    numbers = λ v small. elim (cases_eq v user.0) [
      | inl q ↦ (let a = k.numbers user.0 within in let b : (user_of d'.roster.users v).reg ≡ (user_of d.roster.users user.0).reg = ap (λ (i : ℕ). (user_of d'.roster.users i).reg) q ∙ ap (λ (x : User). x.reg) gone-at in omega (arith, a, b, en))
      | inr ne ↦ (let a = k.numbers v (omega (arith, m', small)) in let b : (user_of d'.roster.users v).reg ≡ (user_of d.roster.users v).reg = ap (λ (x : User). x.reg) (rest v ne) in omega (arith, a, b, en))
    ];
  }
