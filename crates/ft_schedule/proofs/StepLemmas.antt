-- The turns of items that have no cause: their steps, counts and CPUs.
use Rattle.std.proofs.Common.{◌≡◌, ℕ, zero, suc, ◌+◌, ◌*◌, ◌<◌, ◌≤◌, ◌==◌, arith, Bool, true, false, nat_lt, All, List, [], ◌∷◌, length, map, sum_by, Option, Some, None, refl, ap, ap₂, ◌∙◌, sym, subst, if◌then◌else◌}
use Rattle.std.specs.List.{list_any}
use Rattle.std.proofs.lemmas.List.{length-append}
use Rattle.std.proofs.lemmas.List.Sums.{sum_by-cons}
use Rattle.std.proofs.lemmas.Bool.Decides.{nat_tests}
use Rattle.ft_base.specs.declared.turn.Actor.{Actor}
use Rattle.ft_base.specs.declared.turn.Who.{Who}
use Rattle.ft_base.specs.declared.turn.Who.TheVariants.{Control, Cpu, All as Everyone}
use Rattle.ft_base.specs.declared.turn.Turn.{Turn}
use Rattle.ft_base.specs.Schedule.{every_cpu, turn_of, repeated, actors_in}
use Rattle.ft_base.specs.declared.limits.TheConstants.{STEPS}
use Rattle.ft_base.proofs.Small.{or-false_both}
use Rattle.ft_schedule.specs.declared.item.SchedItem.{SchedItem}
use Rattle.ft_schedule.specs.declared.faults.SchedFault.{SchedFault}
use Rattle.ft_schedule.specs.declared.faults.SchedFault.TheVariants.{Limit, Unknown}
use Rattle.ft_schedule.specs.Items.{turn_from}
use Rattle.ft_schedule.specs.Causes.{IsTurn, actors_at, has_bad_count, is_past_limit, is_unknown, has_unknown, steps_of, cause_in}

length-every_cpu : (c n : ℕ) → length (every_cpu c n) ≡ n
length-every_cpu c zero = refl
length-every_cpu c (suc n) = ap suc (length-every_cpu (suc c) n)

length-turn_of : (cpus : ℕ) (who : Who) → length (turn_of cpus who) ≡ actors_at cpus who
length-turn_of cpus Control = refl
length-turn_of cpus (Cpu c) = refl
length-turn_of cpus Everyone = omega (arith, length-every_cpu 0 cpus)

length-repeated : (n : ℕ) (turn : List Actor) → length (repeated n turn) ≡ n * length turn
unfolding repeated
length-repeated zero turn = omega arith
length-repeated (suc n) turn = length-append turn (repeated n turn) ∙ omega (arith, length-repeated n turn)

-- the steps of items are as many as the actors of their turns
pub length-actors_in : (cpus : ℕ) (items : List SchedItem) → length (actors_in cpus (map turn_from items)) ≡ sum_by (steps_of cpus) items
length-actors_in cpus [] = refl
length-actors_in cpus (item ∷ items) =
    let front : length (repeated item.count (turn_of cpus item.who)) ≡ steps_of cpus item = length-repeated item.count (turn_of cpus item.who) ∙ ap (λ n. item.count * n) (length-turn_of cpus item.who) in
    length-append (repeated item.count (turn_of cpus item.who)) (actors_in cpus (map turn_from items))
    ∙ ap₂ (λ m n. m + n) front (length-actors_in cpus items)
    ∙ sym (sum_by-cons (steps_of cpus) item items)

counted : (n : ℕ) → (n == 0) ≡ false → 0 < n
counted n h = grind (arith, nat_tests)

-- items with good counts and known CPUs have turns
pub all-turns : (cpus : ℕ) (items : List SchedItem) → list_any has_bad_count items ≡ false → has_unknown cpus items ≡ false → All (IsTurn cpus) (map turn_from items)
all-turns cpus [] good known k d h = absurd (omega (arith, h))
all-turns cpus (item ∷ items) good known zero d h = record {
  counted = counted item.count (or-false_both _ _ (or-false_both (has_bad_count item) (list_any has_bad_count items) good).0).0;
  known = (or-false_both (is_unknown cpus item) (has_unknown cpus items) known).0;
}
all-turns cpus (item ∷ items) good known (suc k) d h =
    all-turns cpus items (or-false_both (has_bad_count item) (list_any has_bad_count items) good).1 (or-false_both (is_unknown cpus item) (has_unknown cpus items) known).1 k d (omega (arith, h))

cause_by : Bool → Bool → Option SchedFault
cause_by past unknown = if past then Some Limit else (if unknown then Some Unknown else None)

no_cause : (past unknown : Bool) → cause_by past unknown ≡ None → (past ≡ false) × (unknown ≡ false)
unfolding cause_by
no_cause true unknown h = absurd (cc)
no_cause false true h = absurd (cc)
no_cause false false h = (refl, refl)

module _ (cpus : ℕ) (items : List SchedItem) (none : cause_in cpus items ≡ None) where
  parts : (is_past_limit cpus 0 items ≡ false) × (has_unknown cpus items ≡ false)
  unfolding cause_by
  parts = no_cause (is_past_limit cpus 0 items) (has_unknown cpus items) none

  pub good : (list_any has_bad_count items ≡ false) × (nat_lt STEPS (0 + sum_by (steps_of cpus) items) ≡ false)
  good = or-false_both _ _ parts.0

  few-steps : (n : ℕ) → nat_lt STEPS n ≡ false → n ≤ STEPS
  few-steps n h = grind (arith, nat_tests)

  pub few-actors : (turns : List Turn) → turns ≡ map turn_from items → length (actors_in cpus turns) ≤ STEPS
  few-actors turns e = omega (arith, few-steps (0 + sum_by (steps_of cpus) items) good.1, ap (λ ts. length (actors_in cpus ts)) e, length-actors_in cpus items)

  pub each-turn : (turns : List Turn) → turns ≡ map turn_from items → All (IsTurn cpus) turns
  each-turn turns e = let f : All (IsTurn cpus) (map turn_from items) = all-turns cpus items good.0 parts.1 in subst (All (IsTurn cpus)) (sym e) f
