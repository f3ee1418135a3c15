-- What may follow a past may follow another one in which its task finds the same.
use Rattle.std.proofs.Common.{cond, ◌≡◌, ℕ, zero, suc, ◌<◌, ◌≤◌, ◌⊎◌, Bool, true, false, ◌&&◌, ◌||◌, ◌==◌, List, [], ◌∷◌, length, map, get_or, Option, Some, None, is_some, IfSome, IsSome, Contains, refl, sym, ap, ◌∙◌, subst, arith, eqb-true, inl, inr}
use Rattle.std.proofs.lemmas.List.{length-map}
use Rattle.std.specs.List.{list_any, filter, AllByRecursion as Each}
use Rattle.ft_base.specs.declared.number.CallNo.{CallNo}
use Rattle.ft_base.specs.declared.context.Ctx.{Ctx}
use Rattle.ft_base.specs.declared.item.Item.{Item}
use Rattle.ft_base.specs.declared.item.Item.TheVariants.{Begin, Return, Enter, Back, BackEnd, Refuse, Miss, Body, Leave, Exit, ExitEnd, Ret}
use Rattle.ft_base.specs.declared.item.Ran.{Ran}
use Rattle.ft_base.specs.declared.item.Ran.TheVariants.{Nop, List as ByList, Own}
use Rattle.ft_base.specs.declared.item.Reason.{Reason}
use Rattle.ft_base.specs.declared.item.Reason.TheVariants.{Pid as ByPid, Recursion, Depth}
use Rattle.ft_base.specs.Job.{Job}
use Rattle.ft_base.specs.Versions.{levels}
use Rattle.ft_base.specs.Desk.{desk, is_on, is_live, is_allowed, spec_at, target}
use Rattle.ft_base.proofs.Small.{false_true, ==-refl, or-true, Each-weaker, Contains-head, Contains-more}
use Rattle.ft_hist.specs.Past.{is_of, begun, Callback, Entered, entered, entry_of, Visit, visits, exits, held, miss_due, open_callbacks, since_now}
use Rattle.ft_hist.specs.Plain.{plain}
use Rattle.ft_hist.specs.Rules.{AtReturnedOrBegun, InWindow, KeepsPlainRun, MayVisit, IsSilent, PassesAll, MayRefuse, NoMissDue, MayMiss, HasExit, MayExit, IsExitDone, AreExitsDone, OnlyThose, backs_with_replacement, replacement, IsFetched, MayFollow, IsLegalPast}
use Rattle.ft_hist.proofs.ItemParts.{KeepsOthers, may_follow, of_visit, of_body, of_exits}
use Rattle.ft_hist.proofs.Laws.{plain-other}
use Rattle.ft_hist.proofs.Numbers.{some-run}
use Rattle.ft_hist.proofs.OpenBacks.{opens-are}
use Rattle.ft_hist.proofs.ExitItems.{each-of}
use Rattle.history_order.specs.Exchange.{with_places}
use Rattle.history_order.proofs.Visits.{Falls, visits-fall, exits-of}
use Rattle.history_order.proofs.Alike.{IsEntered, IsSeen, IsRead, Suits, On, moved, held-same}

-- ## lists

each-both : {X : Type 0} (P Q : X → Type 0) (xs : List X) → Each P xs → Each Q xs → Each (λ x. P x × Q x) xs
each-both P Q [] p q = tt
each-both P Q (x ∷ xs) p q = ((p.0, q.0), each-both P Q xs p.1 q.1)

each-map : {X Y : Type 0} (f : X → Y) (Q : Y → Type 0) (xs : List X) → Each (λ x. Q (f x)) xs → Each Q (map f xs)
each-map f Q [] h = tt
each-map f Q (x ∷ xs) h = (h.0, each-map f Q xs h.1)

each-unmap : {X Y : Type 0} (f : X → Y) (Q : Y → Type 0) (xs : List X) → Each Q (map f xs) → Each (λ x. Q (f x)) xs
each-unmap f Q [] h = tt
each-unmap f Q (x ∷ xs) h = (h.0, each-unmap f Q xs h.1)

any-map : {X : Type 0} (f : X → X) (p : X → Bool) → ((x : X) → p (f x) ≡ p x) → (xs : List X) → list_any p (map f xs) ≡ list_any p xs
any-map f p same [] = refl
any-map f p same (x ∷ xs) = ap (λ b. b || list_any p (map f xs)) (same x) ∙ ap (λ b. p x || b) (any-map f p same xs)

filter-map : {X : Type 0} (f : X → X) (p : X → Bool) → ((x : X) → p (f x) ≡ p x) → (xs : List X) → filter p (map f xs) ≡ map f (filter p xs)
filter-map f p same [] = refl
filter-map f p same (x ∷ xs) =
    ap (λ b. cond b (f x ∷ filter p (map f xs)) (filter p (map f xs))) (same x) ∙ by (p x) (filter-map f p same xs)
  where
    by : (b : Bool) → filter p (map f xs) ≡ map f (filter p xs) → cond b (f x ∷ filter p (map f xs)) (filter p (map f xs)) ≡ map f (cond b (x ∷ filter p xs) (filter p xs))
    by true more = ap (λ ys. f x ∷ ys) more
    by false more = more

contains-map : {X Y : Type 0} (f : X → Y) (xs : List X) (i : ℕ) (x : X) → i < length xs → get_or xs i x ≡ x → Contains (map f xs) (f x)
contains-map f [] i x lt e = absurd (omega (arith, lt))
contains-map f (y ∷ xs) zero x lt e = subst (λ z. Contains (map f (y ∷ xs)) z) (ap f e) (Contains-head (f y) (map f xs))
contains-map f (y ∷ xs) (suc i) x lt e = Contains-more (f y) (f x) (map f xs) (contains-map f xs i x (omega (arith, lt)) e)

-- the order of places in a list that falls before and after they are moved
module _ (to : ℕ → ℕ) where
  abbrev Rises : Visit → Visit → Type 0
  Rises b a = a.place < b.place → to a.place < to b.place

  pub stays-in-order : (job : Job) (ms : List Visit) → Falls ms → Falls (map (moved job to) ms) → Each (λ b. Each (Rises b) ms) ms
  stays-in-order job [] f g = tt
  stays-in-order job (m ∷ ms) f g =
      let lower = each-unmap (moved job to) (λ n. n.place < to m.place) ms g.0 in (
        ((λ lt. absurd (omega (arith, lt))), Each-weaker (λ n. to n.place < to m.place) (Rises m) ms (λ n lt _. lt) lower),
        Each-weaker (λ b. (b.place < m.place) × Each (Rises b) ms) (λ b. Each (Rises b) (m ∷ ms)) ms
            (λ b h. ((λ lt. (let below = h.0 in absurd (omega (arith, lt, below)))), h.1))
            (each-both (λ b. b.place < m.place) (λ b. Each (Rises b) ms) ms f.0 (stays-in-order job ms f.1 g.1)),
      )

-- an item of a task stays one
pub of-moved : (to : ℕ → ℕ) (w : ℕ) (item : Item) → is_of w (with_places to item) ≡ is_of w item
of-moved to w (Exit c u entry) = refl
of-moved to w _ = refl

module _ (job : Job) (to : ℕ → ℕ) (v : ℕ) (past past' : List Item) (l : IsLegalPast job past) (l' : IsLegalPast job past') (on : On job to v past past') where
  -- ## what is the same

  module _ (c : CallNo) (own : c.task.0 ≡ v) where
    abbrev f : ℕ
    f = (entry_of c past).func

    pub entry-same : ((entry_of c past').func ≡ (entry_of c past).func) × ((entry_of c past').ctx ≡ (entry_of c past).ctx) × ((entry_of c past').from ≤ (entry_of c past).from)
    entry-same = by (entered c past) (entered c past') refl refl (on.each c own).entry
      where
        by : (o o' : Option Entered) → entered c past ≡ o → entered c past' ≡ o' → IsEntered o o'
            → ((entry_of c past').func ≡ (entry_of c past).func) × ((entry_of c past').ctx ≡ (entry_of c past).ctx) × ((entry_of c past').from ≤ (entry_of c past).from)
        by None None e e' h = (rw (e, e') refl, rw (e, e') refl, rw (e, e') (omega arith))
        by (Some a) (Some b) e e' h = (rw (e, e') h.1, rw (e, e') h.0, rw (e, e') h.2)
        by None (Some b) e e' h = absurd h
        by (Some a) None e e' h = absurd h

    seen : (P : ℕ → Type 0) → IsSeen job past past' → AtReturnedOrBegun past P → AtReturnedOrBegun past' P
    seen P s (inl x) = elim s.0 [ inl e ↦ inl (subst P (sym e) x) | inr e ↦ inr (subst P (sym e) x) ]
    seen P s (inr x) = elim s.1 [ inl e ↦ inl (subst P (sym e) x) | inr e ↦ inr (subst P (sym e) x) ]

    in-window : (P : ℕ → Type 0) → begun past ≤ begun past' → InWindow c past P → InWindow c past' P
    in-window P le w = (w.0, (let a = w.1 in let b = entry-same.2 in omega (arith, a, b)), (let a = w.2 in omega (arith, a, le)), w.3)

    visited-same : (u : ℕ) → list_any (λ m. m.user == u) (visits job c past') ≡ list_any (λ m. m.user == u) (visits job c past)
    visited-same u = ap (λ (ms : List Visit). list_any (λ m. m.user == u) ms) (on.each c own).met ∙ any-map (moved job to) (λ m. m.user == u) (λ m. refl) (visits job c past)

    opens-same : open_callbacks c.task.0 (entry_of c past').ctx past' ≡ open_callbacks c.task.0 (entry_of c past).ctx past
    opens-same =
        let r = some-run job c.task.0 past l in
        let here : plain job c.task.0 past' ≡ Some r.0 = subst (λ (n : ℕ). plain job n past' ≡ plain job n past) (sym own) on.run ∙ r.1 in
        ap (λ (x : Ctx). open_callbacks c.task.0 x past') entry-same.1
        ∙ opens-are job c.task.0 (entry_of c past).ctx past' r.0 here
        ∙ sym (opens-are job c.task.0 (entry_of c past).ctx past r.0 r.1)

    held-is : held job c past' ≡ held job c past
    held-is = held-same job to v past past' l l' on c own

    miss-is : miss_due job c.task.0 past' ≡ miss_due job c.task.0 past
    miss-is = subst (λ (n : ℕ). miss_due job n past' ≡ miss_due job n past) (sym own) on.miss

    -- ## the parts of an item

    may-visit : (u : ℕ) → IsSeen job past past' → IsRead job c u past past' → MayVisit job past c u → MayVisit job past' c u
    may-visit u s read h = record {
      on = subst (λ (n : ℕ). AtReturnedOrBegun past' (λ k. is_on (desk job k) u n ≡ true)) (sym entry-same.0) (seen (λ k. is_on (desk job k) u f ≡ true) s h.on);
      once = visited-same u ∙ h.once;
      order = subst (λ (ms : List Visit). Each (λ m. since_now job c u past' < m.since) ms) (sym (on.each c own).met)
          (each-map (moved job to) (λ m. since_now job c u past' < m.since) (visits job c past)
          (Each-weaker (λ m. since_now job c u past < m.since) (λ m. since_now job c u past' < m.since) (visits job c past) (λ m lt. (let e = read.1 in omega (arith, lt, e))) h.order));
    }

    passes-all : (u : ℕ) → IsSeen job past past' → PassesAll job past c u → PassesAll job past' c u
    passes-all u s h = record {
      pid = λ p. seen (λ k. is_allowed (desk job k) c.task.0 ≡ true) s (h.pid p);
      free = subst (λ (n : ℕ). n < levels job) (sym opens-same) h.free;
      room = λ k. subst (λ (n : ℕ). n < job.frames) (sym held-is) (h.room k);
      level = λ k. subst (λ (n : ℕ). AtReturnedOrBegun past' (λ j. ((desk job j).depth ≡ 0) ⊎ (n < (desk job j).depth))) (sym held-is)
          (seen (λ j. ((desk job j).depth ≡ 0) ⊎ (held job c past < (desk job j).depth)) s (h.level k));
    }

    may-refuse : (u : ℕ) (reason : Reason) → IsSeen job past past' → MayRefuse job past c u reason → MayRefuse job past' c u reason
    may-refuse u ByPid s h = (h.0, seen (λ k. is_allowed (desk job k) c.task.0 ≡ false) s h.1)
    may-refuse u Recursion s h = ((λ p. seen (λ k. is_allowed (desk job k) c.task.0 ≡ true) s (h.0 p)), subst (λ (n : ℕ). levels job ≤ n) (sym opens-same) h.1)
    may-refuse u Depth s h = (
      (λ p. seen (λ k. is_allowed (desk job k) c.task.0 ≡ true) s (h.0 p)),
      subst (λ (n : ℕ). n < levels job) (sym opens-same) h.1,
      h.2,
      elim h.3 [
        | inl e ↦ inl (held-is ∙ e)
        | inr x ↦ inr (subst (λ (n : ℕ). AtReturnedOrBegun past' (λ k. (0 < (desk job k).depth) × ((desk job k).depth ≤ n))) (sym held-is)
            (seen (λ k. (0 < (desk job k).depth) × ((desk job k).depth ≤ held job c past)) s x))
      ],
    )

    none-due : NoMissDue job past c → NoMissDue job past' c
    none-due e = miss-is ∙ e

    silent : begun past ≤ begun past' → IsSilent job past c → IsSilent job past' c
    silent le h u lt un =
        subst (λ (n : ℕ). InWindow c past' (λ k. is_on (desk job k) u n ≡ false)) (sym entry-same.0)
        (in-window (λ k. is_on (desk job k) u f ≡ false) le (h u lt (sym (visited-same u) ∙ un)))

    backs-same : backs_with_replacement job (visits job c past') ≡ map (moved job to) (backs_with_replacement job (visits job c past))
    backs-same =
        ap (λ (ms : List Visit). backs_with_replacement job ms) (on.each c own).met
        ∙ filter-map (moved job to) (λ m. m.back && is_some (spec_at job m.user).ipmodify) (λ m. refl) (visits job c past)

    replaced-same : (g : ℕ) (ms : List Visit) → replacement job g (map (moved job to) ms) ≡ replacement job g ms
    replaced-same g [] = refl
    replaced-same g (m ∷ ms) = refl

    only-those : (ran : Ran) (ms : List Visit) → OnlyThose ran ms → OnlyThose ran (map (moved job to) ms)
    only-those Nop ms e = ap (λ (xs : List Visit). map (moved job to) xs) e
    only-those ByList ms e = tt
    only-those (Own u) ms e = each-map (moved job to) (λ m. m.user ≡ u.0) ms e

    fetched : (g : ℕ) (ran : Ran) → begun past ≤ begun past' → IsFetched job past c g ran → IsFetched job past' c g ran
    fetched g ran le h = record {
      fetched = subst (λ (n : ℕ). InWindow c past' (λ k. ran ≡ target (desk job k) n)) (sym entry-same.0) (in-window (λ k. ran ≡ target (desk job k) f) le h.fetched);
      only = subst (λ (ms : List Visit). OnlyThose ran ms) (sym (on.each c own).met) (only-those ran (visits job c past) h.only);
      one = subst (λ (n : ℕ). n ≤ 1) (sym (ap (λ (ms : List Visit). length ms) backs-same ∙ length-map (backs_with_replacement job (visits job c past)) (moved job to))) h.one;
      runs = h.runs ∙ ap (λ (n : ℕ). replacement job n (backs_with_replacement job (visits job c past))) (sym entry-same.0)
          ∙ sym (replaced-same (entry_of c past').func (backs_with_replacement job (visits job c past)))
          ∙ ap (λ (ms : List Visit). replacement job (entry_of c past').func ms) (sym backs-same);
    }

    may-miss : (u : ℕ) → MayMiss job past c u → MayMiss job past' c u
    may-miss u h = subst (λ (o : Option Callback). IfSome o (λ m. (m.call ≡ c) × (m.user ≡ u)) × IsSome o) (sym miss-is) h

    may-exit : (u entry : ℕ) → IsSeen job past past' → MayExit job past c u entry → MayExit job past' c u (to entry)
    may-exit u entry s h =
        let of = h.of in
        let m = of.0 in
        let ms = visits job c past in
        let order : Each (λ b. Each (Rises to b) ms) ms = stays-in-order to job ms (visits-fall job c past) (subst (λ (xs : List Visit). Falls xs) (on.each c own).met (visits-fall job c past')) in
        let rises : Each (Rises to m) ms = each-of (λ b. Each (Rises to b) ms) ms m of.1 order in
        let places = exits-of job c (Rises to m) past l rises in
        record {
          of = (
            moved job to m,
            subst (λ (xs : List Visit). Contains xs (moved job to m)) (sym (on.each c own).met) (contains-map (moved job to) ms of.1.0 m of.1.1 of.1.2),
            of.2,
            ap to of.3,
            of.4,
            seen (λ k. is_live (desk job k) u m.reg ≡ true) s of.5,
          );
          order = subst (λ (es : List ℕ). Each (λ e. e < to entry) es) (sym (on.each c own).had)
              (each-map to (λ e. e < to entry) (exits c past)
              (Each-weaker (λ e. (e < entry) × ((a : Visit) × Rises to m a × (a.place ≡ e))) (λ e. to e < to entry) (exits c past) (λ e w. in-order e m.place w.0 of.3 w.1)
              (each-both (λ e. e < entry) (λ e. (a : Visit) × Rises to m a × (a.place ≡ e)) (exits c past) h.order places)));
        }
      where
        in-order : (e place : ℕ) → e < entry → place ≡ entry → ((a : Visit) × (a.place < place → to a.place < to place) × (a.place ≡ e)) → to e < to entry
        in-order e place lt is w = subst (λ (n : ℕ). n < to entry) (ap to w.2) (subst (λ (n : ℕ). to w.0.place < n) (ap to is) (w.1 (let there = w.2 in omega (arith, lt, is, there))))

    exits-done : begun past ≤ begun past' → AreExitsDone job past c → AreExitsDone job past' c
    exits-done le h = subst (λ (ms : List Visit). Each (λ m. HasExit job m → IsExitDone job c m past') ms) (sym (on.each c own).met)
        (each-map (moved job to) (λ m. HasExit job m → IsExitDone job c m past') (visits job c past)
        (Each-weaker (λ m. HasExit job m → IsExitDone job c m past) (λ m. HasExit job (moved job to m) → IsExitDone job c (moved job to m) past') (visits job c past) (λ m g i. one m (g i)) h))
      where
        there : (p : ℕ) (es : List ℕ) → list_any (λ e. e == p) es ≡ true → list_any (λ e. e == to p) (map to es) ≡ true
        there p [] e = false_true e
        there p (x ∷ es) e = by (x == p) refl e (there p es)
          where
            by : (b : Bool) → (x == p) ≡ b → (b || list_any (λ y. y == p) es) ≡ true → (list_any (λ y. y == p) es ≡ true → list_any (λ y. y == to p) (map to es) ≡ true)
                → ((to x == to p) || list_any (λ y. y == to p) (map to es)) ≡ true
            by true q z more = rw (eqb-true x p q, ==-refl (to p)) refl
            by false q z more = rw (more z) (or-true (to x == to p))

        one : (m : Visit) → IsExitDone job c m past → IsExitDone job c (moved job to m) past'
        one m (inl e) = inl (subst (λ (es : List ℕ). list_any (λ x. x == to m.place) es ≡ true) (sym (on.each c own).had) (there m.place (exits c past) e))
        one m (inr d) = inr (d.0, (let a = d.1 in let b = (on.each c own).left in omega (arith, a, b)), (let a = d.2 in omega (arith, a, le)), d.3)

  -- ## the item

  pub others : (item : Item) → is_of v item ≡ true → Suits job item past past' → MayFollow job past item → KeepsOthers job past' (with_places to item)
  others (Begin k) own s h = false_true own
  others (Return k answer) own s h = false_true own
  others (Enter c x f caller) own s h = of_exits (none-due c (eqb-true c.task.0 v own) h.exits)
  others (Back c u) own s h =
      let e = eqb-true c.task.0 v own in of_visit (may-visit c e u.0 s.0 s.1 h.callbacks) (passes-all c e u.0 s.0 h.refusals) (none-due c e h.exits)
  others (BackEnd c u) own s h = of_exits (none-due c (eqb-true c.task.0 v own) h.exits)
  others (Refuse c u reason) own s h =
      let e = eqb-true c.task.0 v own in of_visit (may-visit c e u.0 s.0 s.1 h.callbacks) (may-refuse c e u.0 reason s.0 h.refusals) (none-due c e h.exits)
  others (Miss c u) own s h = of_exits (may-miss c (eqb-true c.task.0 v own) u.0 h.exits)
  others (Body c g ran) own s h =
      let e = eqb-true c.task.0 v own in of_body (silent c e s h.silence) (none-due c e h.exits) (fetched c e g.0 ran s h.fetches)
  others (Leave c) own s h = of_exits (none-due c (eqb-true c.task.0 v own) h.exits)
  others (Exit c u entry) own s h =
      let e = eqb-true c.task.0 v own in of_exits (may-exit c e u.0 entry s h.exits.0, none-due c e h.exits.1)
  others (ExitEnd c u) own s h = of_exits (none-due c (eqb-true c.task.0 v own) h.exits)
  others (Ret c to') own s h =
      let e = eqb-true c.task.0 v own in of_exits (exits-done c e s h.exits.0, none-due c e h.exits.1)

  -- the item keeps the plain run of its own task, and that of others
  pub goes : (item : Item) → is_of v item ≡ true → ((w : ℕ) → (v == w) ≡ false → is_of w item ≡ false) → Suits job item past past' → IsSome (plain job v (with_places to item ∷ past'))
      → MayFollow job past item → MayFollow job past' (with_places to item)
  goes item own apart s run h = may_follow job past' (with_places to item) runs (others item own s h)
    where
      runs : KeepsPlainRun job past' (with_places to item)
      runs w = by (v == w) refl
        where
          by : (b : Bool) → (v == w) ≡ b → IsSome (plain job w (with_places to item ∷ past'))
          by true e = subst (λ (n : ℕ). IsSome (plain job n (with_places to item ∷ past'))) (eqb-true v w e) run
          by false e =
              let r = some-run job w past' l' in
              let here : plain job w (with_places to item ∷ past') ≡ Some r.0 = plain-other job past' (with_places to item) w (of-moved to w item ∙ apart w e) ∙ r.1 in
              rw here refl
