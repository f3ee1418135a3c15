-- One history on two CPUs, and rings that are not legal for it, each by one clause.
use Rattle.std.proofs.Common.{◌≡◌, ℕ, ◌-◌, ◌≤◌, Bool, true, false, List, [], ◌∷◌, drop, length, refl, sym, ap, ◌∙◌, subst, ⊎_elim, arith, Some, None}
use Rattle.std.specs.Prelude.{◌==◌, slice_get}
use Rattle.std.proofs.lemmas.Option.{same_Some}
use Rattle.circular_buffer.specs.Buffer.{keep_last}
use Rattle.ft_base.proofs.Small.{false_true, or-true_either}
use Rattle.ft_base.specs.Job.{Trigger}
use Rattle.ft_base.specs.declared.context.Ctx.TheVariants.{Normal}
use Rattle.ft_base.specs.declared.item.Item.{Item}
use Rattle.ft_base.specs.declared.item.Item.TheVariants.{Enter, Back}
use Rattle.ft_base.specs.declared.item.Stamped.{Stamped}
use Rattle.ring_rules.specs.Plan.{TracePlan}
use Rattle.ring_rules.specs.Hits.{has, is_hit, is_of_cpu, stamp, trigger}
use Rattle.ring_rules.specs.Fold.{Ring, Rings, no_ring}
use Rattle.ring_rules.specs.Legal.{IsRing, OtherFired, RingsLegal, fired_at, items_on, ring_with}
use Rattle.ring_rules.proofs.Lists.{equal, sub-full, sub-length}
use Rattle.ring_rules.proofs.Samples.{call, two}

-- The history is `two` of Samples. The first CPU's task calls a at 0 and 18, the second's b at 6 and a at 12. Entries are 1 and 19 on the first
-- CPU, and 13 on the second.
abbrev plan_with : Bool → List Trigger → TracePlan
plan_with tracing ts = record { cpus = 2; tasks = 0 ∷ 1 ∷ []; users = true ∷ false ∷ []; ring = 1; tracing = tracing; triggers = ts }

abbrev at_a : Bool → Trigger
at_a on = record { on = on; limit = None; set = true ∷ false ∷ [] }

abbrev at_b : Bool → Trigger
at_b on = record { on = on; limit = None; set = false ∷ true ∷ [] }

-- rings of these two CPUs
abbrev rings_of : Ring → Ring → List (List ℕ) → Rings
rings_of first second fired = record { cpus = first ∷ second ∷ []; fired = fired }

abbrev ring_of : ℕ → ℕ → Ring
ring_of count last = record { written = count; held = last ∷ [] }

-- with all entries
abbrev whole_with : List (List ℕ) → Rings
whole_with fired = rings_of (ring_of 2 19) (ring_of 1 13) fired

-- ## fired places

-- twice at one place
fired_twice_at_a_place : RingsLegal (plan_with true (record (at_a true) { limit = Some 2 } ∷ [])) two (whole_with ((0 ∷ 0 ∷ []) ∷ [])) → ⊥
fired_twice_at_a_place legal = false_true (sym (legal.fired 0 (omega arith)).once.0)

-- at the call of another function
fired_at_no_hit : RingsLegal (plan_with true (record (at_a true) { limit = Some 1 } ∷ [])) two (whole_with ((6 ∷ []) ∷ [])) → ⊥
fired_at_no_hit legal =
    let x = (legal.fired 0 (omega arith)).hits 6 refl in
    let call_of_b : Item = Enter (call 1 1) Normal (record { 0 = 1 }) None in
    false_true (ap (is_hit (record (at_a true) { limit = Some 1 })) (same_Some call_of_b x.0 x.1) ∙ x.2)

-- at two of three hits, without a limit
fired_once_too_few : RingsLegal (plan_with true (at_a true ∷ [])) two (whole_with ((0 ∷ 12 ∷ []) ∷ [])) → ⊥
fired_once_too_few legal = let times : 2 ≡ 3 = (legal.fired 0 (omega arith)).times in absurd (omega (arith, times))

-- at two, with the limit 1
fired_once_too_often : RingsLegal (plan_with true (record (at_a true) { limit = Some 1 } ∷ [])) two (whole_with ((0 ∷ 12 ∷ []) ∷ [])) → ⊥
fired_once_too_often legal = let times : 2 ≡ 1 = (legal.fired 0 (omega arith)).times in absurd (omega (arith, times))

-- ## entries that another CPU doesn't excuse

-- the items of the first CPU: the first of them, its first entry, and those after it
abbrev first_item : Stamped
first_item = stamp 0 (Enter (call 0 1) Normal (record { 0 = 0 }) None)

abbrev first_entry : Stamped
first_entry = stamp 1 (Back (call 0 1) (record { 0 = 0 }))

abbrev later_items : List Stamped
later_items = drop 2 (items_on (plan_with true []) 0 two)

-- what a ring that isn't full holds is what was written into it
held-is : (plan : TracePlan) (ring : Ring) (written : List ℕ) → ring.written ≤ plan.ring → Some ring ≡ Some (ring_with plan written)
    → ring.held ≡ written
held-is plan ring written le e =
    let same = same_Some ring (ring_with plan written) e in
    let count = ap (λ (r : Ring). r.written) same in
    let none : length written - plan.ring ≡ 0 = omega (arith, count, le) in
    ap (λ (r : Ring). r.held) same ∙ ap (λ k. drop k written) none

-- what fired elsewhere, if there is one trigger alone
by-one : (tracing on : Bool) (t : Trigger) (places : List ℕ) (c : ℕ)
    → OtherFired (plan_with tracing (t ∷ [])) two (places ∷ []) c on
    → (place : ℕ) × (item : Item) × (t.on ≡ on) × (has places place ≡ true) × (slice_get two place ≡ Some item)
    × (is_of_cpu (plan_with tracing (t ∷ [])) c item ≡ false)
by-one tracing on t places c o =
    let within = o.within in
    let first : o.trigger' ≡ 0 = omega (arith, within) in (
      o.place,
      o.item,
      subst (λ i. (trigger (plan_with tracing (t ∷ [])) i).on ≡ on) first o.switches,
      subst (λ i. has (fired_at (places ∷ []) i) o.place ≡ true) first o.fired',
      o.stands,
      o.other,
    )

-- whether the first entry was written
not-in-empty : (plan : TracePlan) (fired : List (List ℕ)) (second : Ring) (r : IsRing plan two (rings_of no_ring second fired) 0) → has r.written 1 ≡ false
not-in-empty plan fired second r = sym (ap (λ l. has l 1) (held-is plan no_ring r.written (omega arith) r.keeps))

in-ring : (tracing : Bool) (ts : List Trigger) (fired : List (List ℕ)) (second : Ring)
    (r : IsRing (plan_with tracing ts) two (rings_of (ring_of 1 1) second fired) 0) → has r.written 1 ≡ true
in-ring tracing ts fired second r = sym (ap (λ l. has l 1) (held-is (plan_with tracing ts) (ring_of 1 1) r.written (omega arith) r.keeps))

-- it is lost, and the CPU alone has switched tracing off, later
lost_by_its_own_hit : RingsLegal (plan_with true (record (at_a false) { limit = Some 1 } ∷ [])) two (rings_of no_ring (ring_of 1 13) ((18 ∷ []) ∷ [])) → ⊥
lost_by_its_own_hit legal =
    let r = legal.ring 0 (omega arith) in
    let t : Trigger = record (at_a false) { limit = Some 1 } in
    let plan = plan_with true (t ∷ []) in
    let o = by-one true false t (18 ∷ []) 0
    (r.missed (first_item ∷ []) later_items first_entry refl refl refl (not-in-empty plan ((18 ∷ []) ∷ []) (ring_of 1 13) r)) in
    let at : 18 ≡ o.0 = ⊎_elim (λ e. equal 18 o.0 e) (λ e. false_true e) (or-true_either (18 == o.0) false o.3) in
    let own_call : Item = Enter (call 0 2) Normal (record { 0 = 0 }) None in
    false_true (sym o.5 ∙ sym (ap (is_of_cpu plan 0) (same_Some own_call o.1 (ap (slice_get two) at ∙ o.4))))

-- it is lost, and the other CPU has switched tracing on
lost_by_switching_on : RingsLegal (plan_with true (at_b true ∷ [])) two (rings_of no_ring (ring_of 1 13) ((6 ∷ []) ∷ [])) → ⊥
lost_by_switching_on legal =
    let r = legal.ring 0 (omega arith) in
    let o = by-one true false (at_b true) (6 ∷ []) 0
    (r.missed (first_item ∷ []) later_items first_entry refl refl refl
    (not-in-empty (plan_with true (at_b true ∷ [])) ((6 ∷ []) ∷ []) (ring_of 1 13) r)) in
    false_true (sym o.2)

-- it is lost, and no trigger was hit
lost_without_a_hit : RingsLegal (plan_with true (record (at_a false) { set = [] } ∷ [])) two (rings_of no_ring (ring_of 1 13) ([] ∷ [])) → ⊥
lost_without_a_hit legal =
    let r = legal.ring 0 (omega arith) in
    let t : Trigger = record (at_a false) { set = [] } in
    let o = by-one true false t [] 0
    (r.missed (first_item ∷ []) later_items first_entry refl refl refl
    (not-in-empty (plan_with true (t ∷ [])) ([] ∷ []) (ring_of 1 13) r)) in
    false_true o.3

-- it was written while tracing was off, and the other CPU has switched it off
added_by_switching_off : RingsLegal (plan_with false (at_b false ∷ [])) two (rings_of (ring_of 1 1) no_ring ((6 ∷ []) ∷ [])) → ⊥
added_by_switching_off legal =
    let r = legal.ring 0 (omega arith) in
    let o = by-one false true (at_b false) (6 ∷ []) 0
    (r.extra (first_item ∷ []) later_items first_entry refl refl refl (in-ring false (at_b false ∷ []) ((6 ∷ []) ∷ []) no_ring r)) in
    false_true o.2

-- it was written after the CPU's own hit has switched tracing off
added_after_its_own_hit : RingsLegal (plan_with true (record (at_a false) { limit = Some 1 } ∷ [])) two (rings_of (ring_of 1 1) (ring_of 1 13) ((0 ∷ []) ∷ [])) → ⊥
added_after_its_own_hit legal =
    let r = legal.ring 0 (omega arith) in
    let t : Trigger = record (at_a false) { limit = Some 1 } in
    let o = by-one true true t (0 ∷ []) 0
    (r.extra (first_item ∷ []) later_items first_entry refl refl refl (in-ring true (t ∷ []) ((0 ∷ []) ∷ []) (ring_of 1 13) r)) in
    false_true o.2

-- ## what a ring holds

-- a ring into which two were written has its last entry
held-of-two : (last : ℕ) → IsRing (plan_with true []) two (rings_of (ring_of 2 last) (ring_of 1 13) []) 0 → last ≡ 19
held-of-two last r =
    let same = same_Some (ring_of 2 last) (ring_with (plan_with true []) r.written) r.keeps in
    let count = ap (λ (x : Ring). x.written) same in
    let all : r.written ≡ 1 ∷ 19 ∷ [] = sub-full r.written (1 ∷ 19 ∷ []) r.some_of (omega (arith, count)) in
    same_Some last 19 (ap (λ (x : Ring). slice_get x.held 0) same ∙ ap (λ l. slice_get (keep_last 1 l) 0) all)

-- the first entry in the place of the last
first_entry_held : RingsLegal (plan_with true []) two (rings_of (ring_of 2 1) (ring_of 1 13) []) → ⊥
first_entry_held legal = let e = held-of-two 1 (legal.ring 0 (omega arith)) in absurd (omega (arith, e))

-- an entry of the other CPU
entry_of_the_other_cpu : RingsLegal (plan_with true []) two (rings_of (ring_of 2 13) (ring_of 1 13) []) → ⊥
entry_of_the_other_cpu legal = let e = held-of-two 13 (legal.ring 0 (omega arith)) in absurd (omega (arith, e))

-- three are said to be written, and there are two
one_too_many_written : RingsLegal (plan_with true []) two (rings_of (ring_of 3 19) (ring_of 1 13) []) → ⊥
one_too_many_written legal =
    let r = legal.ring 0 (omega arith) in
    let same = same_Some (ring_of 3 19) (ring_with (plan_with true []) r.written) r.keeps in
    let count = ap (λ (x : Ring). x.written) same in
    let le : length r.written ≤ 2 = sub-length r.written (1 ∷ 19 ∷ []) r.some_of in
    absurd (omega (arith, count, le))

-- ## how many there are

ring_of_no_cpu : RingsLegal (plan_with true []) two (record { cpus = ring_of 2 19 ∷ ring_of 1 13 ∷ no_ring ∷ []; fired = [] }) → ⊥
ring_of_no_cpu legal = let e : 3 ≡ 2 = legal.cpus in absurd (omega (arith, e))

places_of_no_trigger : RingsLegal (plan_with true []) two (whole_with ([] ∷ [])) → ⊥
places_of_no_trigger legal = let e : 1 ≡ 0 = legal.triggers in absurd (omega (arith, e))
