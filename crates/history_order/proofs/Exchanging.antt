-- Two neighbours that change places leave two pasts in which every task finds the same, and so does what comes after them.
use Rattle.std.proofs.Common.{cond, ◌≡◌, ℕ, suc, ◌<◌, ◌≤◌, Bool, true, false, ◌==◌, List, [], ◌∷◌, ◌++◌, length, map, reverse, Option, Some, None, IfSome, IsSome, slice_get, refl, sym, ap, ◌∙◌, subst, arith, inl, inr, eqb-true, append_assoc}
use Rattle.std.proofs.lemmas.Bool.Decides.{eqb_tells}
use Rattle.std.proofs.lemmas.List.{reverse-append, length-reverse}
use Rattle.std.specs.List.{AllByRecursion as Each}
use Rattle.ft_base.specs.declared.number.CallNo.{CallNo}
use Rattle.ft_base.specs.declared.item.Item.{Item}
use Rattle.ft_base.specs.declared.item.Item.TheVariants.{Begin, Return, Enter, Back, Refuse, Body, Leave, Exit, Ret}
use Rattle.ft_base.specs.Job.{Job, Command, command_at, commands, takes_off, waits_before}
use Rattle.ft_base.specs.Desk.{UserState, desk, user_at, is_on, answer_at, is_accepted}
use Rattle.ft_base.proofs.Small.{==-refl, or-false_both, Each-weaker}
use Rattle.ft_hist.specs.Past.{is_of, done, begun, Callback, callbacks, is_called, entry_of, user_now, visits, Visit}
use Rattle.ft_hist.specs.Plain.{plain, PlainTask, after_item, after_next}
use Rattle.ft_hist.specs.Rules.{KeepsPlainRun, HasWaited, HasEnded, IsAnswered, IsLegal, IsLegalPast, IsStill, IsWhole, MayBegin, MayFollow, acts_passed}
use Rattle.ft_hist.proofs.Carries.{of_task}
use Rattle.ft_hist.proofs.ItemParts.{may_follow, of_begin, of_return}
use Rattle.ft_hist.proofs.Numbers.{some-run}
use Rattle.ft_hist.proofs.OpenBacks.{opened}
use Rattle.ft_hist.proofs.OpenCallbacks.{of_user, by_task}
use Rattle.ft_hist.proofs.Splitting.{legal-older, split-reverse}
use Rattle.ft_hist.proofs.ExitItems.{each-of}
use Rattle.history_order.specs.Exchange.{StaysLegal, exchanged, moved_place, with_places}
use Rattle.history_order.proofs.Visits.{visits-before}
use Rattle.history_order.proofs.Alike.{IsSeen, IsRead, Suits, On, on-same, left-other, right-other, more}
use Rattle.history_order.proofs.Admits.{entry-same, of-moved, others}

-- ## an item after two pasts with the same counts

module _ (job : Job) (to : ℕ → ℕ) (past past' : List Item) (returned : done past' ≡ done past) (begins : begun past' ≡ begun past) where
  abbrev user_by : ℕ → ℕ → ℕ → ℕ → UserState
  user_by u d b f = user_at (desk job (cond (is_on (desk job d) u f) d b)) u

  seen-same : IsSeen job past past'
  seen-same = (inl returned, inr begins)

  -- a task that finds the same reads the same
  module _ (v : ℕ) (l : IsLegalPast job past) (l' : IsLegalPast job past') (on : On job to v past past') where
    user-same : (c : CallNo) (u : ℕ) → c.task.0 ≡ v → user_now job c u past' ≡ user_now job c u past
    user-same c u own =
        ap (λ (n : ℕ). user_by u n (begun past') (entry_of c past').func) returned
        ∙ ap (λ (n : ℕ). user_by u (done past) n (entry_of c past').func) begins
        ∙ ap (λ (n : ℕ). user_by u (done past) (begun past) n) (entry-same job to v past past' l l' on c own).0

    read-same : (c : CallNo) (u : ℕ) → c.task.0 ≡ v → IsRead job c u past past'
    read-same c u own = (ap (λ (s : UserState). s.reg) (user-same c u own), ap (λ (s : UserState). s.since) (user-same c u own))

    pub suits-same : (item : Item) → is_of v item ≡ true → Suits job item past past'
    suits-same (Enter c x f caller) own = omega (arith, returned)
    suits-same (Leave c) own = omega (arith, returned)
    suits-same (Back c u) own = (seen-same, read-same c u.0 (eqb-true c.task.0 v own))
    suits-same (Refuse c u reason) own = (seen-same, read-same c u.0 (eqb-true c.task.0 v own))
    suits-same (Exit c u entry) own = seen-same
    suits-same (Body c g ran) own = omega (arith, begins)
    suits-same (Ret c to') own = omega (arith, begins)
    suits-same _ own = tt

  moved-step : (n : ℕ) (o : Option PlainTask) (item : Item) → after_next job n (with_places to item) o ≡ after_next job n item o
  unfolding after_item
  moved-step n None item = refl
  moved-step n (Some s) (Exit c u entry) = refl
  moved-step n (Some s) item = refl

  pub run-same : (w : ℕ) → plain job w past' ≡ plain job w past → (item : Item) → plain job w (with_places to item ∷ past') ≡ plain job w (item ∷ past)
  unfolding plain
  run-same w same item =
      ap (λ (b : Bool). cond b (after_next job (done past') (with_places to item) (plain job w past')) (plain job w past')) (of-moved to w item) ∙ by (is_of w item)
    where
      by : (b : Bool) → cond b (after_next job (done past') (with_places to item) (plain job w past')) (plain job w past') ≡ cond b (after_next job (done past) item (plain job w past)) (plain job w past)
      by true =
          ap (λ (n : ℕ). after_next job n (with_places to item) (plain job w past')) returned
          ∙ ap (λ (o : Option PlainTask). after_next job (done past) (with_places to item) o) same
          ∙ moved-step (done past) (plain job w past) item
      by false = same

-- whom no callback calls, none of a task does
none-of : (u t : ℕ) (bs : List Callback) → of_user u bs ≡ false → of_user u (of_task t bs) ≡ false
none-of u t [] e = refl
none-of u t (b ∷ bs) e = let both = or-false_both (b.user == u) (of_user u bs) e in by (b.call.task.0 == t) both.0 (none-of u t bs both.1)
  where
    by : (x : Bool) → (b.user == u) ≡ false → of_user u (of_task t bs) ≡ false → of_user u (cond x (b ∷ of_task t bs) (of_task t bs)) ≡ false
    by true q more = rw (q, more) refl
    by false q more = more

module _ (job : Job) (to : ℕ → ℕ) where
  -- two legal pasts with the same counts, in which every task finds the same
  pub record Alike (past past' : List Item) : Type 0 where
    pub legal : IsLegalPast job past
    pub legal' : IsLegalPast job past'
    pub on : (v : ℕ) → On job to v past past'
    pub returned : done past' ≡ done past
    pub begins : begun past' ≡ begun past
    pub size : length past' ≡ length past
    pub fixed : (e : ℕ) → length past ≤ e → to e ≡ e

  module _ (past past' : List Item) (a : Alike past past') where
    runs : (item : Item) → MayFollow job past item → KeepsPlainRun job past' (with_places to item)
    runs item h w = subst (λ (o : Option PlainTask). IsSome o) (sym (run-same job to past past' a.returned a.begins w (a.on w).run item)) (h.run w)

    suits : (v : ℕ) (item : Item) → is_of v item ≡ true → Suits job item past past'
    suits v item own = suits-same job to past past' a.returned a.begins v a.legal a.legal' (a.on v) item own

    opens-same : (t : ℕ) → of_task t (callbacks past') ≡ of_task t (callbacks past)
    opens-same t =
        let r = some-run job t past a.legal in
        (opened job t past' r.0 ((a.on t).run ∙ r.1)).opens ∙ sym (opened job t past r.0 r.1).opens

    quiet : (u : ℕ) → is_called u past ≡ false → is_called u past' ≡ false
    quiet u e = by_task u (callbacks past') (λ t. ap (λ (bs : List Callback). of_user u bs) (opens-same t) ∙ none-of u t (callbacks past) e)

    still : (o : Option Command) → IfSome o (IsStill past) → IfSome o (IsStill past')
    still None h = tt
    still (Some c) h = by (takes_off c) h
      where
        by : (o : Option ℕ) → IfSome o (λ u. is_called u past ≡ false) → IfSome o (λ u. is_called u past' ≡ false)
        by None x = tt
        by (Some u) x = quiet u x

    follow : (item : Item) → MayFollow job past item → MayFollow job past' (with_places to item)
    follow (Begin k) h = may_follow job past' (Begin k) (runs (Begin k) h) (of_begin (begin, waited))
      where
        begin : MayBegin job past' k
        begin =
            let b = h.commands.0 in
            record {
              number = b.number ∙ ap suc (sym a.begins);
              follows = a.begins ∙ b.follows ∙ sym a.returned;
              stands = subst (λ (n : ℕ). n < length (commands job)) (sym a.begins) b.stands;
            }

        waited : HasWaited job past'
        waited = subst (λ (n : ℕ). Each (λ (w : ℕ × ℕ). IfSome (plain job w.0 past') (λ s. w.1 ≤ acts_passed s)) (waits_before n job.ctls)) (sym a.begins)
            (Each-weaker (λ (w : ℕ × ℕ). IfSome (plain job w.0 past) (λ s. w.1 ≤ acts_passed s)) (λ (w : ℕ × ℕ). IfSome (plain job w.0 past') (λ s. w.1 ≤ acts_passed s)) (waits_before (begun past) job.ctls)
            (λ w x. subst (λ (o : Option PlainTask). IfSome o (λ s. w.1 ≤ acts_passed s)) (sym (a.on w.0).run) x) h.commands.1)
    follow (Return k answer) h = may_follow job past' (Return k answer) (runs (Return k answer) h) (of_return (λ (e : is_accepted answer ≡ true). still (command_at job k) (h.callbacks e)) answered)
      where
        answered : IsAnswered job past' k answer
        answered =
            let r = h.commands in
            record {
              number = r.number ∙ ap suc (sym a.returned);
              follows = a.begins ∙ r.follows ∙ ap suc (sym a.returned);
              command = subst (λ (n : ℕ). (c : Command) × (slice_get (commands job) n ≡ Some c) × (answer ≡ answer_at job n c)) (sym a.returned) r.command;
            }
    follow item h = may_follow job past' (with_places to item) (runs item h) (others job to _ past past' a.legal a.legal' (a.on _) item (==-refl _) (suits _ item (==-refl _)) h)

    counts : (item : Item) → (done (with_places to item ∷ past') ≡ done (item ∷ past)) × (begun (with_places to item ∷ past') ≡ begun (item ∷ past))
    counts (Begin k) = (a.returned, ap suc a.begins)
    counts (Return k answer) = (ap suc a.returned, a.begins)
    counts _ = (a.returned, a.begins)

    more-alike : (item : Item) → MayFollow job past item → Alike (item ∷ past) (with_places to item ∷ past')
    unfolding IsLegalPast
    more-alike item h = record {
      legal = (h, a.legal);
      legal' = (follow item h, a.legal');
      on = λ v. by v (is_of v item) refl;
      returned = (counts item).0;
      begins = (counts item).1;
      size = ap suc a.size;
      fixed = λ e le. a.fixed e (omega (arith, le));
    }
      where
        by : (v : ℕ) (b : Bool) → is_of v item ≡ b → On job to v (item ∷ past) (with_places to item ∷ past')
        by v true e =
            more job to v past past' a.legal a.legal' (a.on v) (a.fixed (length past) (omega arith) ∙ sym a.size) item e (suits v item e)
            (run-same job to past past' a.returned a.begins v (a.on v).run item)
        by v false e =
            left-other job to v item past (with_places to item ∷ past') e (right-other job to v (with_places to item) past past' (of-moved to v item ∙ e) (a.on v))

  all-alike : (newer past past' : List Item) → Alike past past' → IsLegalPast job (newer ++ past) → Alike (newer ++ past) (map (with_places to) newer ++ past')
  unfolding IsLegalPast
  all-alike [] past past' a l = a
  all-alike (x ∷ newer) past past' a l = more-alike (newer ++ past) (map (with_places to) newer ++ past') (all-alike newer past past' a l.1) x l.0

-- ## two neighbours

module _ (p : ℕ) where
  elsewhere : (e : ℕ) → (e ≡ p → ⊥) → (e ≡ suc p → ⊥) → moved_place p e ≡ e
  elsewhere e no_first no_second = elim (eqb_tells e p) [
    | inl x ↦ absurd (no_first x.1)
    | inr x ↦ elim (eqb_tells e (suc p)) [ inl y ↦ absurd (no_second y.1) | inr y ↦ rw (x.0, y.0) refl ]
  ]

  place-before : (e : ℕ) → e < p → moved_place p e ≡ e
  place-before e lt = elsewhere e (λ q. omega (arith, lt, q)) (λ q. omega (arith, lt, q))

  place-after : (e : ℕ) → suc p < e → moved_place p e ≡ e
  place-after e lt = elsewhere e (λ q. omega (arith, lt, q)) (λ q. omega (arith, lt, q))

  first-place : moved_place p p ≡ suc p
  first-place = rw (==-refl p) refl

  second-place : moved_place p (suc p) ≡ p
  second-place = elim (eqb_tells (suc p) p) [
    | inl x ↦ (let same = x.1 in absurd (omega (arith, same)))
    | inr x ↦ rw (x.0, ==-refl (suc p)) refl
  ]

-- Two items x and y after a past, which may come in the other order, too: no task has both, each suits the place of the other, and the runs
-- go on in the same way.
pub record MayExchange (job : Job) (past : List Item) (x y : Item) : Type 0 where
  pub old : IsLegalPast job (y ∷ x ∷ past)
  pub new : IsLegalPast job (x ∷ y ∷ past)
  pub apart : (v : ℕ) → is_of v x ≡ true → is_of v y ≡ false
  pub run_x : (v : ℕ) → is_of v x ≡ true → plain job v (x ∷ y ∷ past) ≡ plain job v (x ∷ past)
  pub run_y : (v : ℕ) → is_of v y ≡ true → plain job v (y ∷ past) ≡ plain job v (y ∷ x ∷ past)
  pub suits_x : (v : ℕ) → is_of v x ≡ true → Suits job x past (y ∷ past)
  pub suits_y : (v : ℕ) → is_of v y ≡ true → Suits job y (x ∷ past) past
  pub returned : done (x ∷ y ∷ past) ≡ done (y ∷ x ∷ past)
  pub begins : begun (x ∷ y ∷ past) ≡ begun (y ∷ x ∷ past)

module _ (job : Job) (past : List Item) where
  abbrev to : ℕ → ℕ
  to = moved_place (length past)

  -- an item that may come there names no later place
  stays : (item : Item) → MayFollow job past item → with_places to item ≡ item
  stays (Exit c u entry) h =
      let of = h.exits.0.of in
      let lt : of.0.place < length past = each-of (λ (m : Visit). m.place < length past) (visits job c past) of.0 of.1 (visits-before job c past) in
      let is = of.3 in
      ap (λ (e : ℕ). Exit c u e) (place-before (length past) entry (omega (arith, lt, is)))
  stays _ h = refl

  module _ (x y : Item) (m : MayExchange job past x y) where
    legal-past : IsLegalPast job past
    unfolding IsLegalPast
    legal-past = m.old.1.1

    legal-x : IsLegalPast job (x ∷ past)
    unfolding IsLegalPast
    legal-x = m.old.1

    legal-y : IsLegalPast job (y ∷ past)
    unfolding IsLegalPast
    legal-y = m.new.1

    x-stays : with_places to x ≡ x
    unfolding IsLegalPast
    x-stays = stays x m.old.1.0

    y-stays : with_places to y ≡ y
    unfolding IsLegalPast
    y-stays = stays y m.new.1.0

    at-first : (v : ℕ) → On job to v past past
    at-first v = on-same job to v past legal-past (λ e lt. place-before (length past) e lt)

    by-x : (v : ℕ) → is_of v x ≡ true → On job to v (y ∷ x ∷ past) (x ∷ y ∷ past)
    by-x v own =
        let other = m.apart v own in
        let same : plain job v (with_places to x ∷ y ∷ past) ≡ plain job v (x ∷ past) = ap (λ (z : Item). plain job v (z ∷ y ∷ past)) x-stays ∙ m.run_x v own in
        let on = more job to v past (y ∷ past) legal-past legal-y (right-other job to v y past past other (at-first v)) (first-place (length past)) x own (m.suits_x v own) same in
        left-other job to v y (x ∷ past) (x ∷ y ∷ past) other (subst (λ (z : Item). On job to v (x ∷ past) (z ∷ y ∷ past)) x-stays on)

    by-y : (v : ℕ) → is_of v x ≡ false → is_of v y ≡ true → On job to v (y ∷ x ∷ past) (x ∷ y ∷ past)
    by-y v other own =
        let same : plain job v (with_places to y ∷ past) ≡ plain job v (y ∷ x ∷ past) = ap (λ (z : Item). plain job v (z ∷ past)) y-stays ∙ m.run_y v own in
        let on = more job to v (x ∷ past) past legal-x legal-past (left-other job to v x past past other (at-first v)) (second-place (length past)) y own (m.suits_y v own) same in
        right-other job to v x (y ∷ x ∷ past) (y ∷ past) other (subst (λ (z : Item). On job to v (y ∷ x ∷ past) (z ∷ past)) y-stays on)

    by-none : (v : ℕ) → is_of v x ≡ false → is_of v y ≡ false → On job to v (y ∷ x ∷ past) (x ∷ y ∷ past)
    by-none v no_x no_y =
        left-other job to v y (x ∷ past) (x ∷ y ∷ past) no_y (left-other job to v x past (x ∷ y ∷ past) no_x
        (right-other job to v x past (y ∷ past) no_x (right-other job to v y past past no_y (at-first v))))

    pub two-alike : Alike job to (y ∷ x ∷ past) (x ∷ y ∷ past)
    two-alike = record {
      legal = m.old;
      legal' = m.new;
      on = λ v. by v (is_of v x) refl (is_of v y) refl;
      returned = m.returned;
      begins = m.begins;
      size = refl;
      fixed = λ e le. place-after (length past) e (omega (arith, le));
    }
      where
        by : (v : ℕ) (b : Bool) → is_of v x ≡ b → (c : Bool) → is_of v y ≡ c → On job to v (y ∷ x ∷ past) (x ∷ y ∷ past)
        by v true e c e' = by-x v e
        by v false e true e' = by-y v e e'
        by v false e false e' = by-none v e e'

-- ## their histories

map-reverse : (f : Item → Item) (xs : List Item) → map f (reverse xs) ≡ reverse (map f xs)
map-reverse f [] = refl
map-reverse f (x ∷ xs) =
    ap (λ (ys : List Item). map f ys) (reverse-append (x ∷ []) xs)
    ∙ map-snoc (reverse xs) x
    ∙ ap (λ (ys : List Item). ys ++ f x ∷ []) (map-reverse f xs)
    ∙ sym (reverse-append (f x ∷ []) (map f xs))
  where
    map-snoc : (ys : List Item) (y : Item) → map f (ys ++ y ∷ []) ≡ map f ys ++ f y ∷ []
    map-snoc [] y = refl
    map-snoc (z ∷ ys) y = ap (λ (zs : List Item). f z ∷ zs) (map-snoc ys y)

two-reverse : (before : List Item) (x y : Item) (after : List Item) → reverse (before ++ x ∷ y ∷ after) ≡ reverse after ++ y ∷ x ∷ reverse before
two-reverse before x y after =
    split-reverse before x (y ∷ after)
    ∙ ap (λ (zs : List Item). zs ++ x ∷ reverse before) (reverse-append (y ∷ []) after)
    ∙ append_assoc (reverse after) (y ∷ []) (x ∷ reverse before)

module _ (job : Job) (before after : List Item) (x y : Item) where
  abbrev old_items : List Item
  old_items = before ++ x ∷ y ∷ after

  abbrev new_items : List Item
  new_items = before ++ y ∷ x ∷ exchanged before after

  -- what is exchanged at a place of the past
  new-reverse : reverse new_items ≡ map (with_places (moved_place (length (reverse before)))) (reverse after) ++ x ∷ y ∷ reverse before
  new-reverse =
      two-reverse before y x (exchanged before after)
      ∙ ap (λ (zs : List Item). zs ++ x ∷ y ∷ reverse before)
      (sym (map-reverse (with_places (moved_place (length before))) after) ∙ ap (λ (n : ℕ). map (with_places (moved_place n)) (reverse after)) (sym (length-reverse before)))

  pub old-past : IsLegal job old_items → IsLegalPast job (y ∷ x ∷ reverse before)
  unfolding IsLegal
  old-past l = older (reverse after) (subst (λ (zs : List Item). IsLegalPast job zs) (two-reverse before x y after) l)
    where
      older : (newer : List Item) → IsLegalPast job (newer ++ y ∷ x ∷ reverse before) → IsLegalPast job (y ∷ x ∷ reverse before)
      older newer h = legal-older job newer (y ∷ x ∷ reverse before) h

  ends-alike : IsLegal job old_items → MayExchange job (reverse before) x y → Alike job (moved_place (length (reverse before))) (reverse old_items) (reverse new_items)
  unfolding IsLegal
  ends-alike l m =
      let to' = moved_place (length (reverse before)) in
      let past : reverse old_items ≡ reverse after ++ y ∷ x ∷ reverse before = two-reverse before x y after in
      let a = all-alike job to' (reverse after) (y ∷ x ∷ reverse before) (x ∷ y ∷ reverse before) (two-alike job (reverse before) x y m) (subst (λ (zs : List Item). IsLegalPast job zs) past l) in
      subst (λ (zs : List Item). Alike job to' (reverse old_items) zs) (sym new-reverse)
      (subst (λ (zs : List Item). Alike job to' zs (map (with_places to') (reverse after) ++ x ∷ y ∷ reverse before)) (sym past) a)

  -- so where they may be exchanged, the history stays legal, and whole if it is
  pub stays-legal : (IsLegalPast job (y ∷ x ∷ reverse before) → MayExchange job (reverse before) x y) → StaysLegal job old_items new_items
  unfolding IsLegal
  stays-legal may = (λ l. (ends-alike l (may (old-past l))).legal', λ w. whole w (ends-alike w.legal (may (old-past w.legal))))
    where
      whole : IsWhole job old_items → Alike job (moved_place (length (reverse before))) (reverse old_items) (reverse new_items) → IsWhole job new_items
      whole w a = record {
        legal = a.legal';
        returned = a.returned ∙ w.returned;
        tasks = λ t lt. subst (λ (n : ℕ). IfSome (plain job t (reverse new_items)) (HasEnded n)) (sym a.returned)
            (subst (λ (o : Option PlainTask). IfSome o (HasEnded (done (reverse old_items)))) (sym (a.on t).run) (w.tasks t lt));
      }
