-- Refusals that later lines want to lack among those of a log: after fewer lines they are still such, and those of a call stand in its order.
use Rattle.std.proofs.Common.{cond, ◌≡◌, ℕ, suc, ◌<◌, ◌≤◌, ◌⊎◌, inl, inr, Bool, true, false, not, ◌==◌, List, [], ◌∷◌, ◌++◌, length, Option, Some, None, IsSome, refl, sym, ap, ◌∙◌, subst, arith, eqb-true}
use Rattle.std.specs.List.{filter, AllByRecursion as Each}
use Rattle.ft_base.specs.declared.number.CallNo.{CallNo}
use Rattle.ft_base.specs.declared.item.Item.{Item}
use Rattle.ft_base.specs.declared.item.Item.TheVariants.{Back, Refuse, Body}
use Rattle.ft_base.specs.Same.{same_call}
use Rattle.ft_base.specs.Job.{Job}
use Rattle.ft_base.proofs.Small.{==-refl, Each-filter, and_both, false_true, or-false_both}
use Rattle.ft_hist.proofs.Laws.{same_call-refl}
use Rattle.ft_hist.specs.Past.{Visit, all_visits, is_dispatched, is_of, since_now, visit, visits}
use Rattle.ft_hist.specs.Plain.{PlainTask, plain}
use Rattle.ft_hist.proofs.Shadow.{shown}
use Rattle.ft_hist.proofs.Steps.{Step, own-step, same_call-eq, step_back, step_body, step_refuse}
use Rattle.kernel_rules.specs.Direct.{ComesFirst, CouldRefuse, Lacked, since_of}
use Rattle.kernel_rules.proofs.Lacks.{IsAfter, IsPair, each-pairs, visitor}
use Rattle.kernel_rules.proofs.Told.{each-none, none-each}

-- ## the dispatch of a call

-- the item is one of the dispatch of a call
abbrev pub in_dispatch : CallNo → Item → Bool
in_dispatch c (Back d u) = same_call d c
in_dispatch c (Refuse d u reason) = same_call d c
in_dispatch c (Body d g ran) = same_call d c
in_dispatch c _ = false

-- it is of the task of the call
of-dispatch : (c : CallNo) (item : Item) → in_dispatch c item ≡ true → is_of c.task.0 item ≡ true
of-dispatch c (Back d u) is = (and_both (d.task.0 == c.task.0) (d.n == c.n) is).0
of-dispatch c (Refuse d u reason) is = (and_both (d.task.0 == c.task.0) (d.n == c.n) is).0
of-dispatch c (Body d g ran) is = (and_both (d.task.0 == c.task.0) (d.n == c.n) is).0
of-dispatch c _ is = false_true is

module _ (job : Job) where
  module _ (c : CallNo) (past : List Item) where
    -- the call that an item of its dispatch finds has had no Body
    by-step : {n : ℕ} {p s : PlainTask} {item : Item} → Step job n p s item → in_dispatch c item ≡ true → plain job c.task.0 past ≡ Some p → is_dispatched c past ≡ false
    by-step (step_back p f below) is here = subst (λ (d : CallNo). is_dispatched d past ≡ false) (same_call-eq f.call c is) ((shown job c.task.0 past _ here).0.0 refl)
    by-step (step_refuse p f below) is here = subst (λ (d : CallNo). is_dispatched d past ≡ false) (same_call-eq f.call c is) ((shown job c.task.0 past _ here).0.0 refl)
    by-step (step_body p f below) is here = subst (λ (d : CallNo). is_dispatched d past ≡ false) (same_call-eq f.call c is) ((shown job c.task.0 past _ here).0.0 refl)
    by-step _ is here = false_true is

    -- for each item
    pub undispatched : (item : Item) → in_dispatch c item ≡ true → IsSome (plain job c.task.0 (item ∷ past)) → is_dispatched c past ≡ false
    undispatched item is some = of (plain job c.task.0 (item ∷ past)) refl some
      where
        of : (o : Option PlainTask) → plain job c.task.0 (item ∷ past) ≡ o → IsSome o → is_dispatched c past ≡ false
        of None e h = false_true h
        of (Some s) e h = let w = own-step job c.task.0 item past s (of-dispatch c item is) e in by-step w.2 is w.1

  -- a dispatch that isn't over was not over before
  pub dispatched-less : (c : CallNo) (item : Item) (past : List Item) → is_dispatched c (item ∷ past) ≡ false → is_dispatched c past ≡ false
  dispatched-less c (Body d g ran) past h = (or-false_both (same_call d c) (is_dispatched c past) h).1
  dispatched-less c _ past h = h

  -- ## fewer lines

  -- a list without its head
  tail-of : (P : Visit → Type 0) (b : Bool) (m : Visit) (ms : List Visit) → Each P (cond b (m ∷ ms) ms) → Each P ms
  tail-of P true m ms h = h.1
  tail-of P false m ms h = h

  -- what holds of each visit held of each before
  pub each-less : (c : CallNo) (P : Visit → Type 0) (x : Item) (past : List Item) → Each P (visits job c (x ∷ past)) → Each P (visits job c past)
  unfolding all_visits
  each-less c P (Back d u) past h = tail-of P (same_call d c) _ (visits job c past) h
  each-less c P (Refuse d u reason) past h = tail-of P (same_call d c) _ (visits job c past) h
  each-less c P _ past h = h

  -- the visit that a line tells
  pub each-head : (c : CallNo) (P : Visit → Type 0) (x : Item) (past : List Item) → Each P (visits job c (x ∷ past)) → Each (λ u. (back : Bool) × P (visit job c u past (all_visits job past) back)) (visitor c x)
  unfolding all_visits
  each-head c P (Back d u) past h = of (same_call d c) refl h
    where
      of : (b : Bool) → same_call d c ≡ b → Each P (cond b (visit job d u.0 past (all_visits job past) true ∷ visits job c past) (visits job c past)) → Each (λ v. (back : Bool) × P (visit job c v past (all_visits job past) back)) (cond b (u.0 ∷ []) [])
      of true is h = ((true, subst (λ (e : CallNo). P (visit job e u.0 past (all_visits job past) true)) (same_call-eq d c is) h.0), tt)
      of false is h = tt
  each-head c P (Refuse d u reason) past h = of (same_call d c) refl h
    where
      of : (b : Bool) → same_call d c ≡ b → Each P (cond b (visit job d u.0 past (all_visits job past) false ∷ visits job c past) (visits job c past)) → Each (λ v. (back : Bool) × P (visit job c v past (all_visits job past) back)) (cond b (u.0 ∷ []) [])
      of true is h = ((false, subst (λ (e : CallNo). P (visit job e u.0 past (all_visits job past) false)) (same_call-eq d c is) h.0), tt)
      of false is h = tt
  each-head c P _ past h = tt

  -- a part of a list is one of its tail
  cut-less : (since before past : List Item) (x : Item) → since ++ before ≡ x ∷ past → length before ≤ length past → (s : List Item) × (s ++ before ≡ past)
  cut-less [] before past x e le = let n : length before ≡ suc (length past) = ap length e in absurd (omega (arith, n, le))
  cut-less (y ∷ since) before past x e le = (since, (let h : since ++ before ≡ past = cc in h))

  -- a refusal that could be told could be told before
  pub could-less : (c : CallNo) (x : Item) (past : List Item) (r : Lacked) → length r.before ≤ length past → CouldRefuse job (x ∷ past) c r → CouldRefuse job past c r
  could-less c x past r le h = record {
    cut = cut-less h.cut.0 r.before past x h.cut.1 le;
    run = h.run;
    may = h.may;
    why = h.why;
    once = each-none (λ m. m.user == r.user.0) (visits job c past) (each-less c (λ m. (m.user == r.user.0) ≡ false) x past (none-each (λ m. m.user == r.user.0) (visits job c (x ∷ past)) h.once));
    order = each-less c (λ m. length r.before ≤ m.place → m.since < since_of job c r) x past h.order;
  }

  -- whom the line visits comes after it
  pub after-less : (c : CallNo) (x : Item) (past : List Item) (r : Lacked) → length r.before ≤ length past → CouldRefuse job (x ∷ past) c r → Each (IsAfter job c past r) (visitor c x)
  after-less c x past r le h =
      both (visitor c x)
      (each-head c (λ m. (m.user == r.user.0) ≡ false) x past (none-each (λ m. m.user == r.user.0) (visits job c (x ∷ past)) h.once))
      (each-head c (λ m. length r.before ≤ m.place → m.since < since_of job c r) x past h.order)
    where
      both : (us : List ℕ) → Each (λ u. (back : Bool) × ((u == r.user.0) ≡ false)) us → Each (λ u. (back : Bool) × (length r.before ≤ length past → since_now job c u past < since_of job c r)) us → Each (IsAfter job c past r) us
      both [] p q = tt
      both (u ∷ us) p q = ((p.0.1, q.0.1 le), both us p.1 q.1)

-- ## wanted refusals

-- each that is picked passes
pub passes : {X : Type 0} (p : X → Bool) (xs : List X) → Each (λ x. p x ≡ true) (filter p xs)
passes p [] = tt
passes p (x ∷ xs) = of (p x) refl (passes p xs)
  where
    of : (b : Bool) → p x ≡ b → Each (λ y. p y ≡ true) (filter p xs) → Each (λ y. p y ≡ true) (cond b (x ∷ filter p xs) (filter p xs))
    of true is more = (is, more)
    of false is more = more

-- a fact of each of two lists
pub each-split : {X : Type 0} (P : X → Type 0) (xs ys : List X) → Each P (xs ++ ys) → Each P xs × Each P ys
each-split P [] ys h = (tt, h)
each-split P (x ∷ xs) ys h = let both = each-split P xs ys h.1 in ((h.0, both.0), both.1)

-- and the other way round
pub each-append : {X : Type 0} (P : X → Type 0) (xs ys : List X) → Each P xs → Each P ys → Each P (xs ++ ys)
each-append P [] ys p q = q
each-append P (x ∷ xs) ys p q = (p.0, each-append P xs ys p.1 q)

-- a refusal that a later line wants to lack, and its call
pub record Wanted : Type 0 where
  pub call : CallNo
  pub lacked : Lacked

-- its place: so many lines stand before it
abbrev pub at : Wanted → ℕ
at r = length r.lacked.before

module _ (job : Job) where
  -- of the same call the one that stands first in the list comes later
  abbrev pub IsLater : Wanted → Wanted → Type 0
  IsLater r s = same_call s.call r.call ≡ true → ComesFirst job r.call r.lacked s.lacked

  -- so it is for each
  abbrev pub AreInOrder : List Wanted → Type 0
  AreInOrder [] = Unit {0}
  AreInOrder (r ∷ w) = Each (IsLater r) w × AreInOrder w

  -- after these lines it could be told, and the dispatch of its call isn't over
  abbrev pub IsOpen : List Item → Wanted → Type 0
  IsOpen past r = CouldRefuse job past r.call r.lacked × (is_dispatched r.call past ≡ false)

  pub record AreWanted (past : List Item) (w : List Wanted) : Type 0 where
    pub each : Each (IsOpen past) w
    pub order : AreInOrder w

  -- some of them are in order too
  pub order-filter : (p : Wanted → Bool) (w : List Wanted) → AreInOrder w → AreInOrder (filter p w)
  order-filter p [] h = tt
  order-filter p (r ∷ w) h = of (p r) (order-filter p w h.1)
    where
      of : (b : Bool) → AreInOrder (filter p w) → AreInOrder (cond b (r ∷ filter p w) (filter p w))
      of true more = (Each-filter (IsLater r) p w h.0, more)
      of false more = more

  -- and so are two lists of which the first comes later
  pub order-append : (v w : List Wanted) → AreInOrder v → AreInOrder w → Each (λ r. Each (IsLater r) w) v → AreInOrder (v ++ w)
  order-append [] w g h across = h
  order-append (r ∷ v) w g h across = (each-append (IsLater r) v w g.0 across.0, order-append v w g.1 h across.1)

  -- those at a place, and those before it
  abbrev pub now : ℕ → List Wanted → List Wanted
  now n w = filter (λ r. at r == n) w

  -- and those before it
  abbrev pub sooner : ℕ → List Wanted → List Wanted
  sooner n w = filter (λ r. not (at r == n)) w

  -- two calls are the same either way
  pub same-sym : (a b : CallNo) → same_call a b ≡ true → same_call b a ≡ true
  same-sym a b is = subst (λ (c : CallNo). same_call b c ≡ true) (sym (same_call-eq a b is)) (same_call-refl b)

  -- those at the place come later than those before it
  pub now-later : (n : ℕ) (w : List Wanted) → AreInOrder w → Each (λ r. at r ≤ n) w → Each (λ r. Each (IsLater r) (sooner n w)) (now n w)
  now-later n [] h le = tt
  now-later n (r ∷ w) h le = of (at r == n) refl (now-later n w h.1 le.1)
    where
      later : (at r == n) ≡ false → (s : Wanted) → (at s == n) ≡ true → IsLater r s → IsLater s r
      later is s here after same =
          let earlier : at s ≤ at r = (after (same-sym r.call s.call same)).earlier in
          let there : at s ≡ n = eqb-true (at s) n here in
          let top : at r ≤ n = le.0 in
          let equal : at r ≡ n = omega (arith, earlier, there, top) in
          false_true (sym is ∙ (rw equal (==-refl n)))

      of : (b : Bool) → (at r == n) ≡ b → Each (λ s. Each (IsLater s) (sooner n w)) (now n w)
          → Each (λ s. Each (IsLater s) (cond (not b) (r ∷ sooner n w) (sooner n w))) (cond b (r ∷ now n w) (now n w))
      of true is more = (Each-filter (IsLater r) (λ s. not (at s == n)) w h.0, more)
      of false is more =
          each-pairs (λ s. IsLater s r) (λ s. Each (IsLater s) (sooner n w)) _ (now n w) (λ s k l. (k, l))
          (each-pairs (λ s. (at s == n) ≡ true) (IsLater r) _ (now n w) (later is) (passes (λ s. at s == n) w) (Each-filter (IsLater r) (λ s. at s == n) w h.0)) more

  -- ## the visits that they want

  -- the visit is of one of them
  abbrev pub IsOf : CallNo → Visit → List Wanted → Type 0
  IsOf c m [] = ⊥
  IsOf c m (r ∷ w) = ((same_call r.call c ≡ true) × IsPair job c m r.lacked) ⊎ IsOf c m w

  -- what holds of each of them holds of that one
  pub of-each : (c : CallNo) (m : Visit) (Q : Wanted → Type 0) (w : List Wanted) → Each Q w → IsOf c m w → (r : Wanted) × Q r × (same_call r.call c ≡ true) × IsPair job c m r.lacked
  of-each c m Q [] h is = absurd is
  of-each c m Q (r ∷ w) h (inl is) = (r, h.0, is.0, is.1)
  of-each c m Q (r ∷ w) h (inr is) = of-each c m Q w h.1 is

  -- of one of two lists
  pub of-append : (c : CallNo) (m : Visit) (v w : List Wanted) → IsOf c m (v ++ w) → IsOf c m v ⊎ IsOf c m w
  of-append c m [] w is = inr is
  of-append c m (r ∷ v) w (inl is) = inl (inl is)
  of-append c m (r ∷ v) w (inr is) = elim (of-append c m v w is) [ inl h ↦ inl (inr h) | inr h ↦ inr h ]

  -- those at a place and those before it are all
  pub of-parts : (c : CallNo) (m : Visit) (n : ℕ) (w : List Wanted) → IsOf c m (now n w ++ sooner n w) → IsOf c m w
  of-parts c m n w is = elim (of-append c m (now n w) (sooner n w) is) [ inl h ↦ of-filter (λ r. at r == n) w h | inr h ↦ of-filter (λ r. not (at r == n)) w h ]
    where
      of-cond : (b : Bool) (r : Wanted) (ys xs : List Wanted) → (IsOf c m ys → IsOf c m xs) → IsOf c m (cond b (r ∷ ys) ys) → IsOf c m (r ∷ xs)
      of-cond true r ys xs more (inl h) = inl h
      of-cond true r ys xs more (inr h) = inr (more h)
      of-cond false r ys xs more h = inr (more h)

      of-filter : (p : Wanted → Bool) (xs : List Wanted) → IsOf c m (filter p xs) → IsOf c m xs
      of-filter p [] h = h
      of-filter p (r ∷ xs) h = of-cond (p r) r (filter p xs) xs (of-filter p xs) h

  -- a fact of each
  pub each-parts : (P : Wanted → Type 0) (n : ℕ) (w : List Wanted) → Each P (now n w ++ sooner n w) → Each P w
  each-parts P n w h = let both = each-split P (now n w) (sooner n w) h in all w both.0 both.1
    where
      all : (xs : List Wanted) → Each P (now n xs) → Each P (sooner n xs) → Each P xs
      all [] p q = tt
      all (r ∷ xs) p q = of (at r == n) p q (all xs)
        where
          of : (b : Bool) → Each P (cond b (r ∷ now n xs) (now n xs)) → Each P (cond (not b) (r ∷ sooner n xs) (sooner n xs)) → (Each P (now n xs) → Each P (sooner n xs) → Each P xs) → P r × Each P xs
          of true p q more = (p.0, more p.1 q)
          of false p q more = (q.0, more p q.1)
