-- The history that the seats of a table make has on each CPU the items that the CPU's seat has marked, so rings that were offered these were
-- offered the history's.
use Rattle.std.proofs.Common.{◌≡◌, ◌≢◌, ◌⊎◌, ℕ, zero, suc, ◌+◌, ◌*◌, ◌<◌, ◌≤◌, Bool, true, false, ◌==◌, nat_lt, cond, List, [], ◌∷◌, ◌++◌, get_or, length, filter, map, reverse, slice_get, Option, Some, None, inl, inr, refl, sym, ap, ◌∙◌, subst, arith, mul-zero}
use Rattle.std.specs.Prelude.{option_map}
use Rattle.std.specs.List.{AllByRecursion as Each}
use Rattle.std.proofs.lemmas.Bool.{cases_lt}
use Rattle.std.proofs.lemmas.Bool.Decides.{nat_tests}
use Rattle.std.proofs.lemmas.List.{get_or-map, length-map, length-reverse, reverse-append, reverse-reverse, get_or_past}
use Rattle.std.proofs.lemmas.Option.{same_Some, slice_get-map, slice_get_cases, slice_get_within}
use Rattle.ft_base.specs.declared.item.Item.{Item}
use Rattle.ft_base.specs.declared.item.Stamped.{Stamped}
use Rattle.ft_base.specs.declared.number.CallNo.{CallNo}
use Rattle.ft_base.specs.Items.{call_of, is_task}
use Rattle.ft_base.specs.Job.{Job, Task, no_task}
use Rattle.ft_base.proofs.Small.{==-refl, Each-snoc, Each-weaker}
use Rattle.ft_hist.specs.Past.{is_of}
use Rattle.ft_hist.specs.Placing.{AreCounted, ArePlaced, before, by_place, item_among, item_in, or_item, past_below, times_among, times_in}
use Rattle.ft_hist.specs.Rules.{IsLegal, IsLegalPast}
use Rattle.ft_hist.proofs.Placing.{same-or-not}
use Rattle.user_specs.specs.Bound.{call_bound_in}
use Rattle.history_laws.specs.Bound.{calls_of, items_of}
use Rattle.history_laws.proofs.Bounded.{items-most}
use Rattle.word_machine.specs.Limits.{IsLimited}
use Rattle.ring_rules.specs.Plan.{TracePlan, plan_of}
use Rattle.ring_rules.specs.Hits.{call_on, is_of_cpu, stamp}
use Rattle.ring_rules.specs.RingInvariant.{IsOf}
use Rattle.ring_rules.specs.Legal.{items_from, items_on}
use Rattle.ring_rules.proofs.OnCpus.{items-more, on-apart}
use Rattle.ring_table.specs.Seats.{HaveItems, SeatHas, SeatPlace}
use Rattle.ft_machine.specs.Fed.{cpu_items}
use Rattle.live_table.specs.Seats.{AreSeats, Board, ControlPlace, CpuPlace, IsRising, control_items_at, history_of, items_at, lists_at}
use Rattle.live_table.proofs.OwnItems.{OfCpu, control-own, cpu-own}

-- places that increase, item by item
abbrev Rises : List Stamped → Type 0
Rises [] = Unit {0}
Rises (x ∷ xs) = Each (λ (y : Stamped). x.place < y.place) xs × Rises xs

-- an item of no call
abbrev IsNobodys : Stamped → Type 0
IsNobodys x = call_of x.item ≡ None

-- the lists are those of the CPUs from CPU d on: each has items of its CPU
abbrev AreOn : TracePlan → ℕ → List (List Stamped) → Type 0
AreOn plan d [] = Unit {0}
AreOn plan d (xs ∷ ls) = Each (λ (x : Stamped). is_of_cpu plan d x.item ≡ true) xs × AreOn plan (suc d) ls

-- ## the items of a list below a place

abbrev below : ℕ → List Stamped → List Stamped
below p xs = filter (λ (x : Stamped). nat_lt x.place p) xs

-- with the item at the place, if there is one
abbrev then-at : ℕ → Option Item → List Stamped → List Stamped
then-at p None xs = xs
then-at p (Some item) xs = xs ++ stamp p item ∷ []

-- where a place stands to another
apart-cases : (a b : ℕ) → (a < b) ⊎ ((a ≡ b) ⊎ (b < a))
apart-cases a b = grind arith

none-below : (p : ℕ) (xs : List Stamped) → Each (λ (x : Stamped). p ≤ x.place) xs → below p xs ≡ []
none-below p [] h = refl
none-below p (x ∷ xs) h =
    let le = h.0 in let e : nat_lt x.place p ≡ false = grind (arith, nat_tests, le) in
    ap (λ b. cond b (x ∷ below p xs) (below p xs)) e ∙ none-below p xs h.1

all-below : (p : ℕ) (xs : List Stamped) → AreCounted p xs → below p xs ≡ xs
all-below p [] h = refl
all-below p (x ∷ xs) h =
    let lt = h.0 in let e : nat_lt x.place p ≡ true = grind (arith, nat_tests, lt) in
    ap (λ b. cond b (x ∷ below p xs) (below p xs)) e ∙ ap (λ l. x ∷ l) (all-below p xs h.1)

head-first : (p : ℕ) (o : Option Item) (x : Stamped) (xs : List Stamped) → x ∷ then-at p o xs ≡ then-at p o (x ∷ xs)
head-first p None x xs = refl
head-first p (Some item) x xs = refl

-- those below the next place are the same and the item at this one
below-more : (p : ℕ) (xs : List Stamped) → Rises xs → below (suc p) xs ≡ then-at p (item_in xs p) (below p xs)
below-more p [] rises = refl
below-more p (x ∷ xs) rises = elim (apart-cases x.place p) [
  | inl lt ↦ (let now : nat_lt x.place p ≡ true = grind (arith, nat_tests, lt) in
      let next : nat_lt x.place (suc p) ≡ true = grind (arith, nat_tests, lt) in
      let ne : (x.place == p) ≡ false = grind (arith, nat_tests, lt) in
      (λ i. cond (next i) (x ∷ below (suc p) xs) (below (suc p) xs))
      ∙ ap (λ l. x ∷ l) (below-more p xs rises.1)
      ∙ head-first p (item_in xs p) x (below p xs)
      ∙ (λ i. then-at p (cond (sym ne i) (Some x.item) (item_in xs p)) (cond (sym now i) (x ∷ below p xs) (below p xs))))
  | inr (inl at) ↦ (let now : nat_lt x.place p ≡ false = grind (arith, nat_tests, at) in
      let next : nat_lt x.place (suc p) ≡ true = grind (arith, nat_tests, at) in
      let eq : (x.place == p) ≡ true = grind (arith, nat_tests, at) in
      let above : Each (λ (y : Stamped). suc p ≤ y.place) xs =
      Each-weaker (λ (y : Stamped). x.place < y.place) (λ (y : Stamped). suc p ≤ y.place) xs (λ y lt. omega (arith, lt, at)) rises.0 in
      let above' : Each (λ (y : Stamped). p ≤ y.place) xs =
      Each-weaker (λ (y : Stamped). suc p ≤ y.place) (λ (y : Stamped). p ≤ y.place) xs (λ y lt. omega (arith, lt)) above in
      (λ i. cond (next i) (x ∷ below (suc p) xs) (below (suc p) xs))
      ∙ ap (λ l. x ∷ l) (none-below (suc p) xs above)
      ∙ (λ i. stamp (at i) x.item ∷ [])
      ∙ ap (λ l. l ++ stamp p x.item ∷ []) (sym (none-below p xs above'))
      ∙ (λ i. then-at p (cond (sym eq i) (Some x.item) (item_in xs p)) (cond (sym now i) (x ∷ below p xs) (below p xs))))
  | inr (inr gt) ↦ (let now : nat_lt x.place p ≡ false = grind (arith, nat_tests, gt) in
      let next : nat_lt x.place (suc p) ≡ false = grind (arith, nat_tests, gt) in
      let ne : (x.place == p) ≡ false = grind (arith, nat_tests, gt) in
      (λ i. cond (next i) (x ∷ below (suc p) xs) (below (suc p) xs))
      ∙ below-more p xs rises.1
      ∙ (λ i. then-at p (cond (sym ne i) (Some x.item) (item_in xs p)) (cond (sym now i) (x ∷ below p xs) (below p xs))))
]

-- ## one place

none-in : (p : ℕ) (xs : List Stamped) → times_in xs p ≡ 0 → item_in xs p ≡ None
none-in p [] e = refl
none-in p (x ∷ xs) e = elim (same-or-not x.place p) [
  | inl h ↦ absurd (let t : times_in (x ∷ xs) p ≡ 1 + times_in xs p = ap (λ b. cond b 1 0 + times_in xs p) h.1 in omega (arith, e, t))
  | inr h ↦ (let t : times_in (x ∷ xs) p ≡ 0 + times_in xs p = ap (λ b. cond b 1 0 + times_in xs p) h.1 in
      ap (λ b. cond b (Some x.item) (item_in xs p)) h.1 ∙ none-in p xs (omega (arith, e, t)))
]

-- an item that is at the place, of which P holds as of all
one-in : (P : Item → Type 0) (p : ℕ) (xs : List Stamped) → times_in xs p ≡ 1 → Each (λ (x : Stamped). P x.item) xs
    → (item : Item) × (item_in xs p ≡ Some item) × P item
one-in P p [] e all = absurd (omega (arith, e))
one-in P p (x ∷ xs) e all = elim (same-or-not x.place p) [
  | inl h ↦ (x.item, ap (λ b. cond b (Some x.item) (item_in xs p)) h.1, all.0)
  | inr h ↦ (let t : times_in (x ∷ xs) p ≡ 0 + times_in xs p = ap (λ b. cond b 1 0 + times_in xs p) h.1 in
      let r = one-in P p xs (omega (arith, e, t)) all.1 in
      (r.0, ap (λ b. cond b (Some x.item) (item_in xs p)) h.1 ∙ r.1, r.2))
]

none-at : (p : ℕ) (ls : List (List Stamped)) (j : ℕ) (xs : List Stamped) → slice_get ls j ≡ Some xs → times_among ls p ≡ 0
    → times_in xs p ≡ 0
none-at p [] j xs at e = absurd cc
none-at p (ys ∷ ls) zero xs at e = ap (λ zs. times_in zs p) (sym (same_Some ys xs at)) ∙ (omega (arith, e))
none-at p (ys ∷ ls) (suc j) xs at e = none-at p ls j xs at (omega (arith, e))

here-or-later : (a b : ℕ) → a + b ≡ 1 → ((a ≡ 1) × (b ≡ 0)) ⊎ ((a ≡ 0) × (b ≡ 1))
here-or-later zero b e = inr (refl, omega (arith, e))
here-or-later (suc a) b e = inl (omega (arith, e), omega (arith, e))

module _ (plan : TracePlan) (c : ℕ) where
  -- the item at a place among lists, and whether one of them has it: if the item is CPU c's
  abbrev Tells : List (List Stamped) → List Stamped → ℕ → Type 0
  Tells ls xs p = (item : Item) × (item_among ls p ≡ Some item) × (item_in xs p ≡ cond (is_of_cpu plan c item) (Some item) None)

  -- an item of one of the lists is of its CPU
  one-among : (p d : ℕ) (ls : List (List Stamped)) → times_among ls p ≡ 1 → AreOn plan d ls
      → (item : Item) × (item_among ls p ≡ Some item) × (e : ℕ) × (d ≤ e) × (is_of_cpu plan e item ≡ true)
  one-among p d [] e on = absurd (omega (arith, e))
  one-among p d (ys ∷ ls) e on = elim (here-or-later (times_in ys p) (times_among ls p) e) [
    | inl h ↦ (let r = one-in (λ item. is_of_cpu plan d item ≡ true) p ys h.0 on.0 in
        (r.0, ap (λ o. or_item o (item_among ls p)) r.1, d, omega arith, r.2))
    | inr h ↦ (let r = one-among p (suc d) ls h.1 on.1 in
        (r.0, ap (λ o. or_item o (item_among ls p)) (none-in p ys h.0) ∙ r.1, r.2, (let le = r.3 in omega (arith, le)), r.4))
  ]

  tells : (p d j : ℕ) (ls : List (List Stamped)) (xs : List Stamped) → c ≡ d + j → slice_get ls j ≡ Some xs → times_among ls p ≡ 1
      → AreOn plan d ls → Tells ls xs p
  tells p d j [] xs is at e on = absurd cc
  tells p d zero (ys ∷ ls) xs is at e on = elim (here-or-later (times_in ys p) (times_among ls p) e) [
    | inl h ↦ (let r = one-in (λ item. is_of_cpu plan d item ≡ true) p ys h.0 on.0 in
        let own : is_of_cpu plan c r.0 ≡ true = subst (λ k. is_of_cpu plan k r.0 ≡ true) same r.2 in (
          r.0,
          ap (λ o. or_item o (item_among ls p)) r.1,
          ap (λ zs. item_in zs p) (sym (same_Some ys xs at)) ∙ r.1 ∙ ap (λ b. cond b (Some r.0) None) (sym own),
        ))
    | inr h ↦ (let r = one-among p (suc d) ls h.1 on.1 in
        let apart : r.2 ≢ c = λ q. (let le = r.3 in omega (arith, le, q, is)) in (
          r.0,
          ap (λ o. or_item o (item_among ls p)) (none-in p ys h.0) ∙ r.1,
          ap (λ zs. item_in zs p) (sym (same_Some ys xs at)) ∙ none-in p ys h.0
              ∙ ap (λ b. cond b (Some r.0) None) (sym (on-apart plan c r.2 r.0 apart r.4)),
        ))
  ]
    where
      same : d ≡ c
      same = omega (arith, is)
  tells p d (suc j) (ys ∷ ls) xs is at e on = elim (here-or-later (times_in ys p) (times_among ls p) e) [
    | inl h ↦ (let r = one-in (λ item. is_of_cpu plan d item ≡ true) p ys h.0 on.0 in
        let apart : d ≢ c = λ q. omega (arith, q, is) in (
          r.0,
          ap (λ o. or_item o (item_among ls p)) r.1,
          none-in p xs (none-at p ls j xs at h.1) ∙ ap (λ b. cond b (Some r.0) None) (sym (on-apart plan c d r.0 apart r.2)),
        ))
    | inr h ↦ (let r = tells p (suc d) j ls xs (omega (arith, is)) at h.1 on.1 in
        (r.0, ap (λ o. or_item o (item_among ls p)) (none-in p ys h.0) ∙ r.1, r.2))
  ]

  -- with a list of items that are nobody's before them
  tells-own : (p : ℕ) (own : List Stamped) (ls : List (List Stamped)) (xs : List Stamped) → slice_get ls c ≡ Some xs
      → times_among (own ∷ ls) p ≡ 1 → Each IsNobodys own → AreOn plan 0 ls → Tells (own ∷ ls) xs p
  tells-own p own ls xs at e nobodys on = elim (here-or-later (times_in own p) (times_among ls p) e) [
    | inl h ↦ (let r = one-in (λ item. call_of item ≡ None) p own h.0 nobodys in (
      r.0,
      ap (λ o. or_item o (item_among ls p)) r.1,
      none-in p xs (none-at p ls c xs at h.1) ∙ ap (λ b. cond b (Some r.0) None) (sym (ap (call_on plan c) r.2)),
    ))
    | inr h ↦ (let r = tells p 0 c ls xs (omega arith) at h.1 on in
        (r.0, ap (λ o. or_item o (item_among ls p)) (none-in p own h.0) ∙ r.1, r.2))
  ]

  -- ## all places

  module _ (ls : List (List Stamped)) (xs : List Stamped) (rises : Rises xs) where
    abbrev first : ℕ → List Item
    first p = reverse (past_below ls p)

    one-later : (p : ℕ) → Tells ls xs p → length (first p) ≡ p → items_from plan c 0 (first p) ≡ below p xs
        → (length (first (suc p)) ≡ suc p) × (items_from plan c 0 (first (suc p)) ≡ below (suc p) xs)
    one-later p (item, there, has) long so-far =
        let next : first (suc p) ≡ first p ++ item ∷ [] =
        ap (λ o. reverse (before o (past_below ls p))) there ∙ reverse-append (item ∷ []) (past_below ls p) in (
          length-reverse (past_below ls (suc p)) ∙ ap (λ o. length (before o (past_below ls p))) there
              ∙ ap suc (sym (length-reverse (past_below ls p)) ∙ long),
          ap (items_from plan c 0) next ∙ items-more plan c 0 (first p) item ∙ by (is_of_cpu plan c item) refl,
        )
      where
        at-end : 0 + length (first p) ≡ p
        at-end = omega (arith, long)

        by : (b : Bool) → is_of_cpu plan c item ≡ b
            → cond b (items_from plan c 0 (first p) ++ stamp (0 + length (first p)) item ∷ []) (items_from plan c 0 (first p)) ≡ below (suc p) xs
        by true own =
            (λ i. so-far i ++ stamp (at-end i) item ∷ [])
            ∙ ap (λ o. then-at p o (below p xs)) (sym (has ∙ ap (λ b. cond b (Some item) None) own)) ∙ sym (below-more p xs rises)
        by false other =
            so-far ∙ ap (λ o. then-at p o (below p xs)) (sym (has ∙ ap (λ b. cond b (Some item) None) other)) ∙ sym (below-more p xs rises)

    first-items : (p : ℕ) → ((q : ℕ) → q < p → Tells ls xs q) → (length (first p) ≡ p) × (items_from plan c 0 (first p) ≡ below p xs)
    first-items zero told = (refl, sym (none-below 0 xs (all-from xs)))
      where
        all-from : (ys : List Stamped) → Each (λ (y : Stamped). 0 ≤ y.place) ys
        all-from [] = tt
        all-from (y ∷ ys) = (omega arith, all-from ys)
    first-items (suc p) told =
        let before = first-items p (λ q lt. told q (omega (arith, lt))) in one-later p (told p (omega arith)) before.0 before.1

counted-at : (n : ℕ) (ls : List (List Stamped)) (j : ℕ) (xs : List Stamped) → slice_get ls j ≡ Some xs → Each (AreCounted n) ls
    → AreCounted n xs
counted-at n [] j xs at all = absurd cc
counted-at n (ys ∷ ls) zero xs at all = subst (AreCounted n) (same_Some ys xs at) all.0
counted-at n (ys ∷ ls) (suc j) xs at all = counted-at n ls j xs at all.1

-- the items of CPU c by place are those of its list
placed-on : (plan : TracePlan) (c n : ℕ) (own : List Stamped) (ls : List (List Stamped)) (xs : List Stamped) → ArePlaced n (own ∷ ls)
    → Each IsNobodys own → AreOn plan 0 ls → slice_get ls c ≡ Some xs → Rises xs → items_on plan c (by_place (own ∷ ls)) ≡ xs
placed-on plan c n own ls xs placed nobodys on at rises =
    ap (λ m. items_from plan c 0 (reverse (past_below (own ∷ ls) m))) placed.count
    ∙ (first-items plan c (own ∷ ls) xs rises n (λ p lt. tells-own plan c p own ls xs at (placed.once p lt) nobodys on)).1
    ∙ all-below n xs (counted-at n ls c xs at placed.below.1)

-- ## seats

each-got : {X : Type 0} (P : X → Type 0) (xs : List X) → ((k : ℕ) (x : X) → slice_get xs k ≡ Some x → P x) → Each P xs
each-got P [] got = tt
each-got P (x ∷ xs) got = (got 0 x refl, each-got P xs (λ k y at. got (suc k) y at))

rises : (xs : List Stamped) → IsRising xs → Rises xs
rises [] r = tt
rises (x ∷ xs) r = (
  each-got (λ (y : Stamped). x.place < y.place) xs (λ k y at. r 0 (suc k) x y (omega arith) refl at),
  rises xs (λ j k y z lt at at2. r (suc j) (suc k) y z (omega (arith, lt)) at at2),
)

-- an item of a task of a CPU is the CPU's by the plan
of-cpu : (job : Job) (c : ℕ) (item : Item) → OfCpu job c item → is_of_cpu (plan_of job) c item ≡ true
of-cpu job c item (t, on, (call, is, of)) =
    let known : get_or (map (λ (x : Task). x.cpu) job.tasks) call.task.0 0 ≡ c =
    ap (λ n. get_or (map (λ (x : Task). x.cpu) job.tasks) n 0) of ∙ get_or-map (λ (x : Task). x.cpu) job.tasks t no_task 0 on.0 ∙ on.1 in
    ap (call_on (plan_of job) c) is ∙ ap (λ n. n == c) known ∙ ==-refl c

module _ (b : Board) (limited : IsLimited b.job) (control : ControlPlace) (cpus : List CpuPlace) (n : ℕ) (seats : AreSeats b cpus)
    (placed : ArePlaced n (lists_at control cpus)) where
  seats-on : (d : ℕ) (ss : List CpuPlace) → ((k : ℕ) (s : CpuPlace) → slice_get ss k ≡ Some s → (s.job ≡ b.job) × (s.number ≡ d + k))
      → AreOn (plan_of b.job) d (map items_at ss)
  seats-on d [] at = tt
  seats-on d (s ∷ ss) at = (own, seats-on (suc d) ss (λ k z e. ((at (suc k) z e).0, (let m = (at (suc k) z e).1 in omega (arith, m)))))
    where
      number : s.number ≡ d
      number = let m = (at 0 s refl).1 in omega (arith, m)

      same : cpu_items b.job d s.values ≡ items_at s
      same = λ i. cpu_items (sym (at 0 s refl).0 i) (sym number i) s.values

      own : Each (λ (x : Stamped). is_of_cpu (plan_of b.job) d x.item ≡ true) (items_at s)
      own =
          subst (λ xs. Each (λ (x : Stamped). is_of_cpu (plan_of b.job) d x.item ≡ true) xs) same
          (Each-weaker (λ (x : Stamped). OfCpu b.job d x.item) (λ (x : Stamped). is_of_cpu (plan_of b.job) d x.item ≡ true)
          (cpu_items b.job d s.values) (λ x of. of-cpu b.job d x.item of) (cpu-own b.job limited d s.values))

  -- The items of a CPU in the history are those that its seat has marked. The premises are what `gather` tells of the length of its history, and
  -- what the CPU's seat tells of its items.
  pub on-cpu : (c : ℕ) (s : CpuPlace) → slice_get cpus c ≡ Some s → IsRising (items_at s)
      → items_on (plan_of b.job) c (history_of control cpus) ≡ items_at s
  on-cpu c s at rising =
      placed-on (plan_of b.job) c n (control_items_at control) (map items_at cpus) (items_at s) placed (control-own control.led control.values)
      (seats-on 0 cpus (λ k z e. ((seats.each k z e).0.1, (let m = (seats.each k z e).1 in omega (arith, m)))))
      (slice_get-map items_at cpus c ∙ ap (option_map items_at) at) (rises (items_at s) rising)

  -- So seats of rings that were offered what the CPUs have marked were offered the items of the history.
  pub have-items : (rings : List SeatPlace) → length rings ≡ length cpus
      → ((c : ℕ) (s : CpuPlace) (r : SeatPlace) → slice_get cpus c ≡ Some s → slice_get rings c ≡ Some r
      → IsRising (items_at s) × SeatHas (plan_of b.job) (items_at s) r)
      → HaveItems (plan_of b.job) (history_of control cpus) rings
  have-items rings many offered c r at = elim (slice_get_cases cpus c).1 [
    | inl s ↦ (let o = offered c s.0 r s.2 at in
        subst (λ xs. SeatHas (plan_of b.job) xs r) (sym (on-cpu c s.0 s.2 o.0)) o.1)
    | inr none ↦ absurd (let lt = slice_get_within rings c r at in let ge = none.0 in omega (arith, lt, ge, many))
  ]

-- ## legal histories

-- a task that the job doesn't have makes no calls, so a legal history has no items of it
task-named : (job : Job) (t : ℕ) (item : Item) (past : List Item) → is_of t item ≡ true → IsLegalPast job (item ∷ past)
    → t < length job.tasks
task-named job t item past own l = elim (cases_lt t (length job.tasks)) [
  | inl lt ↦ lt
  | inr ge ↦ (let most = items-most job (item ∷ past) t l in
      let none : calls_of job t ≡ 0 = rw (get_or_past job.tasks t no_task ge) refl in
      let one : items_of t (item ∷ past) ≡ suc (items_of t past) = rw own refl in
      let all : call_bound_in job * calls_of job t ≡ 0 = rw none (mul-zero (call_bound_in job)) in
      absurd (omega (arith, most, one, all)))
]

module _ (job : Job) where
  -- an item's call is of one of the job's tasks
  abbrev IsNamed : Item → Type 0
  IsNamed item = (call : CallNo) → call_of item ≡ Some call → call.task.0 < length (map (λ (x : Task). x.cpu) job.tasks)

  all-named : (past : List Item) → IsLegalPast job past → Each IsNamed past
  unfolding IsLegalPast
  all-named [] l = tt
  all-named (item ∷ past) l = (
    λ call is. subst (λ n. call.task.0 < n) (sym (length-map job.tasks (λ (x : Task). x.cpu)))
        (task-named job call.task.0 item past (ap (is_task call.task.0) is ∙ ==-refl call.task.0) l),
    all-named past l.1,
  )

  each-turned : (xs : List Item) → Each IsNamed xs → Each IsNamed (reverse xs)
  each-turned [] all = tt
  each-turned (x ∷ xs) all = subst (Each IsNamed) (sym (reverse-append (x ∷ []) xs)) (Each-snoc IsNamed (reverse xs) x (each-turned xs all.1) all.0)

-- so its calls are all of the job's tasks
pub of-legal : (job : Job) (history : List Item) → IsLegal job history → IsOf (plan_of job) history
unfolding IsLegal
of-legal job history legal =
    subst (Each (IsNamed job)) (reverse-reverse history) (each-turned job (reverse history) (all-named job (reverse history) legal))
