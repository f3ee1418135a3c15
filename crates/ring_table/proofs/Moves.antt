-- Drawing a ticket, switching tracing and looking at it keep the rule of the table.
use Rattle.std.proofs.Common.{◌≡◌, ◌≢◌, ℕ, suc, ◌+◌, ◌%◌, ◌^◌, ◌<◌, ◌≤◌, Bool, [], length, set, get_or, refl, sym, ap, ◌∙◌, subst, arith, length-set}
use Rattle.std.specs.Prelude.{◌-◌}
use Rattle.std.proofs.lemmas.List.{set-get_or}
use mathlib.Core.Option.{some}
use lib.ListN.{get_elem?}
use Rattle.atomic_table.specs.Table.{Me, State, keeps, Allows, stepped}
use Rattle.ft_base.specs.declared.limits.TheConstants.{ITEMS}
use Rattle.ring_rules.specs.Plan.{TracePlan}
use Rattle.ring_rules.specs.Hits.{trigger}
use Rattle.ring_table.specs.declared.view.Known.{Known}
use Rattle.ring_table.specs.Views.{View, cpu_view, draws, hits_by, is_one, looks, nothing, switches}
use Rattle.ring_table.specs.Tally.{IsTally, bit, drawn, fired_of, hits_of, looked, switched_to}
use Rattle.ring_table.specs.Rule.{RingRule}
use Rattle.dealt_seats.specs.Covers.{Fits}
use Rattle.dealt_seats.proofs.Moves.{covers-more}
use Rattle.dealt_seats.specs.Views.{cpu, part}
use Rattle.dealt_seats.proofs.Actors.{at_cpu, at_cpu-else, at_cpu-other, at_cpu-same}
use Rattle.ring_table.proofs.Tallies.{drawn-keeps, drawn-small, is-bit, own-below, look-keeps, switch-keeps}

-- ## one step

module _ {S : Type 0} (plan : TracePlan) (id c : ℕ) (k : Known) (t : State S View) (r : RingRule plan t)
    (at : get_elem? t.views id ≡ some (cpu_view plan c k)) where
  mine : Fits plan tt r.knows r.seat r.split id (cpu_view plan c k) (part (cpu c) k)
  mine = r.covers.fits id (cpu_view plan c k) at 0 (part (cpu c) k) refl

  pub has-known : k ≡ r.knows (cpu c)
  has-known = mine.has

  pub is-inside : c < plan.cpus
  is-inside = let lt = mine.stands in let most = r.covers.within in omega (arith, lt, most)

  -- the rule after a step that keeps the tally: CPU c knows more
  pub rule-after : (w x : ℕ) (k' : Known) → IsTally plan (set t.words w x) (λ d. at_cpu r.knows c k' (cpu d))
      → RingRule plan (stepped t w x id [] (cpu_view plan c k') keeps)
  rule-after w x k' tally = record {
    limits = r.limits;
    knows = at_cpu r.knows c k';
    seat = r.seat;
    split = r.split;
    count = length-set t.words w x ∙ r.count;
    tally = tally;
    covers = covers-more plan plan.cpus (nothing plan) tt t.views r.knows r.seat r.split r.covers id 0 tt (cpu c) k at tt tt (at_cpu r.knows c k') k'
        (at_cpu-same r.knows c k') (at_cpu-else r.knows c k') (λ own here x ne stands. stands) mine.stands;
  }

-- ## each kind of step

-- a ticket of trigger i is drawn
draw-at : {S : Type 0} (plan : TracePlan) (slots id c i : ℕ) (k : Known) → i < length plan.triggers → hits_of k i < ITEMS
    → Allows {S = S} (RingRule plan) slots id (cpu_view plan c k, []) (suc i) (λ n. (n + 1) % 2 ^ 64)
    (λ n m. (m ≡ (draws (cpu_view plan c k) i n, [])) × (hits_of k i ≤ n))
draw-at {S} plan slots id c i k within room t r homes at small =
    let has = has-known plan id c k t r at in
    let inside = is-inside plan id c k t r at in
    let n : ℕ = get_or t.words (suc i) 0 in
    let k' : Known = drawn plan i n k in
    let knows : ℕ → Known = λ d. r.knows (cpu d) in
    let room' : hits_of (r.knows (cpu c)) i < ITEMS = subst (λ z. hits_of z i < ITEMS) has room in
    let own : at_cpu r.knows c k' (cpu c) ≡ drawn plan i n (r.knows (cpu c)) = at_cpu-same r.knows c k' ∙ ap (drawn plan i n) has in
    let else' : (d : ℕ) → d ≢ c → at_cpu r.knows c k' (cpu d) ≡ r.knows (cpu d) = at_cpu-other r.knows c k' in
    let fits = drawn-small plan r.limits t.words knows r.tally r.count c i inside within room' (λ d. at_cpu r.knows c k' (cpu d)) own else' in
    let below = own-below plan r.limits t.words knows r.tally r.count c i inside within room' (λ d. at_cpu r.knows c k' (cpu d)) own else' in
    let own-most : hits_of k i ≤ n = subst (λ z. hits_of z i ≤ n) (sym has) below in
    let next : suc n ≡ (n + 1) % 2 ^ 64 = omega (arith, fits) in (
      cpu_view plan c k',
      keeps,
      tt,
      rule-after plan id c k t r at (suc i) ((n + 1) % 2 ^ 64) k'
          (subst (λ x. IsTally plan (set t.words (suc i) x) (λ d. at_cpu r.knows c k' (cpu d))) next
          (drawn-keeps plan r.limits t.words knows r.tally r.count c i inside within room' (λ d. at_cpu r.knows c k' (cpu d)) own else')),
      (refl, own-most),
    )

pub draw-allowed : {S : Type 0} (plan : TracePlan) (slots id c i w : ℕ) (k : Known) → w ≡ suc i → i < length plan.triggers → hits_of k i < ITEMS
    → Allows {S = S} (RingRule plan) slots id (cpu_view plan c k, []) w (λ n. (n + 1) % 2 ^ 64)
    (λ n m. (m ≡ (draws (cpu_view plan c k) (w - 1) n, [])) × (hits_of k (w - 1) ≤ n))
draw-allowed {S} plan slots id c i w k is within room =
    let back : i ≡ w - 1 = omega (arith, is) in
    subst
    (λ (z : ℕ × ℕ). Allows {S = S} (RingRule plan) slots id (cpu_view plan c k, []) z.0 (λ n. (n + 1) % 2 ^ 64)
    (λ n m. (m ≡ (draws (cpu_view plan c k) z.1 n, [])) × (hits_of k z.1 ≤ n)))
    (λ j. (sym is j, back j))
    (draw-at plan slots id c i k within room)

-- tracing is switched as a fired hit says
pub switch-allowed : {S : Type 0} (plan : TracePlan) (slots id c i x : ℕ) (on : Bool) (k : Known) → i < length plan.triggers
    → (trigger plan i).on ≡ on
    → x ≡ bit on → 0 < fired_of k i
    → Allows {S = S} (RingRule plan) slots id (cpu_view plan c k, []) 0 (λ n. x) (λ n m. m ≡ (switches (cpu_view plan c k) (is_one x), []))
switch-allowed {S} plan slots id c i x on k within says is fired t r homes at small =
    let has = has-known plan id c k t r at in
    let inside = is-inside plan id c k t r at in
    let k' : Known = switched_to (is_one x) k in
    let same : is_one x ≡ on = ap is_one is ∙ is-bit on in (
      cpu_view plan c k',
      keeps,
      tt,
      rule-after plan id c k t r at 0 x k'
          (switch-keeps plan t.words (λ d. r.knows (cpu d)) r.tally r.count c i inside within (subst (λ z. 0 < fired_of z i) has fired) on says
          (λ d. at_cpu r.knows c k' (cpu d))
          (at_cpu-same r.knows c k' ∙ (λ j. switched_to (same j) (has j)))
          (at_cpu-other r.knows c k') x is),
      refl,
    )

-- tracing is looked at
pub look-allowed : {S : Type 0} (plan : TracePlan) (slots id c : ℕ) (k : Known)
    → Allows {S = S} (RingRule plan) slots id (cpu_view plan c k, []) 0 (λ n. n) (λ n m. m ≡ (looks (cpu_view plan c k) (is_one n), []))
look-allowed {S} plan slots id c k t r homes at small =
    let has = has-known plan id c k t r at in
    let n : ℕ = get_or t.words 0 0 in
    let k' : Known = looked (is_one n) k in (
      cpu_view plan c k',
      keeps,
      tt,
      rule-after plan id c k t r at 0 n k'
          (subst (λ ws. IsTally plan ws (λ d. at_cpu r.knows c k' (cpu d))) (sym (set-get_or t.words 0 0))
          (look-keeps plan t.words (λ d. r.knows (cpu d)) r.tally c (λ d. at_cpu r.knows c k' (cpu d))
          (at_cpu-same r.knows c k' ∙ ap (looked (is_one n)) has)
          (at_cpu-other r.knows c k'))),
      refl,
    )

-- ## the same at seats that are known

pub draw-me : {S : Type 0} (plan : TracePlan) (slots id i : ℕ) (me : Me S View) → i < length plan.triggers
    → ((c : ℕ) × (k : Known) × (me ≡ (cpu_view plan c k, [])) × (hits_of k i < ITEMS))
    → Allows {S = S} (RingRule plan) slots id me (1 + i) (λ n. (n + 1) % 2 ^ 64)
    (λ n m. (m ≡ (draws me.0 (1 + i - 1) n, me.1)) × (hits_by me.0 (1 + i - 1) ≤ n))
draw-me {S} plan slots id i me within known =
    subst (λ (m : Me S View). Allows {S = S} (RingRule plan) slots id m (1 + i) (λ n. (n + 1) % 2 ^ 64)
    (λ n m'. (m' ≡ (draws m.0 (1 + i - 1) n, m.1)) × (hits_by m.0 (1 + i - 1) ≤ n))) (sym known.2)
    (draw-allowed plan slots id known.0 i (1 + i) known.1 (omega arith) within known.3)

pub switch-me : {S : Type 0} (plan : TracePlan) (slots id i x : ℕ) (on : Bool) (me : Me S View) → i < length plan.triggers → (trigger plan i).on ≡ on
    → x ≡ bit on
    → ((c : ℕ) × (k : Known) × (me ≡ (cpu_view plan c k, [])) × (0 < fired_of k i))
    → Allows {S = S} (RingRule plan) slots id me 0 (λ n. x) (λ n m. m ≡ (switches me.0 (is_one x), me.1))
switch-me {S} plan slots id i x on me within says is known =
    subst (λ (m : Me S View). Allows {S = S} (RingRule plan) slots id m 0 (λ n. x) (λ n m'. m' ≡ (switches m.0 (is_one x), m.1))) (sym known.2)
    (switch-allowed plan slots id known.0 i x on known.1 within says is known.3)

pub look-me : {S : Type 0} (plan : TracePlan) (slots id : ℕ) (me : Me S View)
    → ((c : ℕ) × (k : Known) × (me ≡ (cpu_view plan c k, [])))
    → Allows {S = S} (RingRule plan) slots id me 0 (λ n. n) (λ n m. m ≡ (looks me.0 (is_one n), me.1))
look-me {S} plan slots id me known =
    subst (λ (m : Me S View). Allows {S = S} (RingRule plan) slots id m 0 (λ n. n) (λ n m'. m' ≡ (looks m.0 (is_one n), m.1))) (sym known.2)
    (look-allowed plan slots id known.0 known.1)
