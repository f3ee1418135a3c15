-- A CPU's step, and the offer of its item.
use Rattle.std.proofs.Common.{◌≡◌, ◌⊎◌, inl, inr, ℕ, suc, ◌<◌, ◌≤◌, List, [], ◌∷◌, ◌++◌, length, Some, None, refl, sym, ap, ◌∙◌, subst, arith}
use Rattle.std.specs.List.{AllByRecursion as Each}
use Rattle.std.proofs.lemmas.List.{length-append}
use Rattle.ft_base.specs.declared.item.Stamped.{Stamped}
use Rattle.ft_base.specs.Job.{Job}
use Rattle.word_machine.specs.Laws.{room_on}
use Rattle.ring_rules.specs.Plan.{TracePlan, plan_of}
use Rattle.ring_table.specs.Seats.{Board as RingBoard, IsNext, SeatHas, SeatPlace, SitsAt}
use Rattle.live_table.specs.declared.live.Going.{Going}
use Rattle.live_table.specs.declared.live.Going.TheVariants.{End, More}
use Rattle.live_table.specs.Seats.{CpuPlace, IsRising, items_at, last_at}
use Rattle.live_table.specs.Steps.{CpuSteps, with_value}
use Rattle.dealt_seats.proofs.Parts.{get-middle}
use Rattle.live_table.proofs.Lasts.{value-marks}
use Rattle.live_seats.specs.Ends.{IsSameCpu}
use Rattle.live_seats.specs.Traced.{IsTraced, ring_name}

-- ## places that increase

rising-tail : (x : Stamped) (xs : List Stamped) → IsRising (x ∷ xs) → IsRising xs
rising-tail x xs rising j k y z lt at at2 = rising (suc j) (suc k) y z (omega (arith, lt)) at at2

-- those before the last one are below it
pub rising-below : (xs : List Stamped) (x : Stamped) → IsRising (xs ++ x ∷ []) → Each (λ y. y.place < x.place) xs
rising-below [] x rising = tt
rising-below (y ∷ ys) x rising =
    (rising 0 (suc (length ys)) y x (omega arith) refl (get-middle ys x []), rising-below ys x (rising-tail y (ys ++ x ∷ []) rising))

-- ## a step

-- the seat has one value more
abbrev pub HasMore : CpuPlace → CpuPlace → Type 0
HasMore s t = (v : ℕ) × (t ≡ with_value s v)

pub has-more : (s t : CpuPlace) (going : Going) → CpuSteps s going t → going ≡ More → HasMore s t
has-more s t More steps is = (_, steps.3)
has-more s t End steps is = absurd (cc)

-- it is the same seat
step-same : (s t : CpuPlace) → HasMore s t → IsSameCpu s t
step-same s t more =
    let is = more.1 in
    record {
      table_id = ap (λ (u : CpuPlace). u.table_id) is;
      id = ap (λ (u : CpuPlace). u.id) is;
      job = ap (λ (u : CpuPlace). u.job) is;
      number = ap (λ (u : CpuPlace). u.number) is;
    }

module _ (s t : CpuPlace) (r : SeatPlace) (more : HasMore s t) (is : IsTraced record { cpu = s; ring = r }) (rising : IsRising (items_at t))
    (few : length (items_at t) ≤ room_on t.job t.number) where
  same : IsSameCpu s t
  same = step-same s t more

  marks : ((x : Stamped) × (last_at t ≡ Some x) × (items_at t ≡ items_at s ++ x ∷ [])) ⊎ ((last_at t ≡ None) × (items_at t ≡ items_at s))
  marks = value-marks s t more.0 more.1

  -- nothing was marked, and nothing is offered
  pub nothing-offered : last_at t ≡ None → IsTraced record { cpu = t; ring = r }
  nothing-offered none = by marks
    where
      by : ((x : Stamped) × (last_at t ≡ Some x) × (items_at t ≡ items_at s ++ x ∷ [])) ⊎ ((last_at t ≡ None) × (items_at t ≡ items_at s))
          → IsTraced record { cpu = t; ring = r }
      by (inl (x, some, items)) = absurd (cc)
      by (inr (no_item, items)) = record {
        plan' = is.plan' ∙ ap plan_of (sym same.job);
        rising = rising;
        has = subst (λ (q : Job × List Stamped). SeatHas (plan_of q.0) q.1 r) (λ i. (sym same.job i, sym items i)) is.has;
        room' = subst (λ (q : Job × ℕ). room_on q.0 q.1 ≤ r.room) (λ i. (sym same.job i, sym same.number i)) is.room';
      }

  module _ (x : Stamped) (some : last_at t ≡ Some x) where
    items-more : items_at t ≡ items_at s ++ x ∷ []
    items-more = by marks
      where
        by : ((y : Stamped) × (last_at t ≡ Some y) × (items_at t ≡ items_at s ++ y ∷ [])) ⊎ ((last_at t ≡ None) × (items_at t ≡ items_at s))
            → items_at t ≡ items_at s ++ x ∷ []
        by (inl (y, one, items)) = let e : y ≡ x = cc in items ∙ ap (λ (z : Stamped). items_at s ++ z ∷ []) e
        by (inr (none, items)) = absurd (cc)

    -- the item's place is after those offered before
    pub offer-place : r.next ≤ x.place
    offer-place = is.has.made.least x.place (rising-below (items_at s) x (subst IsRising items-more rising))

    -- there is room for one more
    pub offer-room : 0 < r.left
    offer-room =
        let n = ap (λ (l : List Stamped). length l) items-more ∙ length-append (items_at s) (x ∷ []) in
        let most = subst (λ (q : Job × ℕ). room_on q.0 q.1 ≤ r.room) (λ i. (sym same.job i, sym same.number i)) is.room' in
        let had = is.has.offered in
        omega (arith, n, few, most, had)

    -- and once it was offered, all that was marked is
    pub offered : (b : RingBoard) (u : SeatPlace) → SitsAt b r → IsNext x r u
        → ((items : List Stamped) → SeatHas b.plan items r → SeatHas b.plan (items ++ x ∷ []) u)
        → IsTraced record { cpu = t; ring = u }
    offered b u sits next has =
        let plan : b.plan ≡ plan_of s.job = sym sits.1 ∙ is.plan' in
        let more = has (items_at s) (subst (λ (p : TracePlan). SeatHas p (items_at s) r) (sym plan) is.has) in
        record {
          plan' = next.table'.1 ∙ is.plan' ∙ ap plan_of (sym same.job);
          rising = rising;
          has = subst (λ (q : TracePlan × List Stamped). SeatHas q.0 q.1 u) (λ i. ((plan ∙ ap plan_of (sym same.job)) i, sym items-more i)) more;
          room' = subst (λ (n : ℕ). room_on t.job t.number ≤ n) (sym next.room')
              (subst (λ (q : Job × ℕ). room_on q.0 q.1 ≤ r.room) (λ i. (sym same.job i, sym same.number i)) is.room');
        }

    -- to the same seat
    pub same-ring : (u : SeatPlace) → IsNext x r u → ring_name u ≡ ring_name r
    same-ring u next = λ i. record { table_id = next.table'.0 i; plan = next.table'.1 i; number = next.table'.2 i }
