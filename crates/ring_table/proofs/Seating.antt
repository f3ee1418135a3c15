-- Splitting a seat and joining two keep the rule of the table. The words and what the CPUs know stay as they are.
use Rattle.std.proofs.Common.{◌≡◌, ℕ, ◌+◌, ◌<◌, List, [], ◌∷◌, refl, sym, subst}
use mathlib.Core.Option.{some}
use lib.ListN.{get_elem?}
use Rattle.atomic_table.specs.Table.{Me, Splits, Joins}
use Rattle.dealt_seats.specs.Views.{dealer, joined}
use Rattle.dealt_seats.proofs.Actors.{at_cpu}
use Rattle.dealt_seats.proofs.Moves.{covers-dealt, covers-joined, dealt_at}
use Rattle.ring_rules.specs.Plan.{TracePlan}
use Rattle.ring_table.specs.declared.view.Known.{Known}
use Rattle.ring_table.specs.Rule.{RingRule}
use Rattle.ring_table.specs.Views.{Part, View, cpu_view, dealt, first_view, no_plan, nothing, spent, view}

-- the first seat gives the next CPU its seat
splits : {S : Type 0} (plan : TracePlan) (id split : ℕ) → split < plan.cpus
    → Splits {S = S} (RingRule plan) id (first_view plan split) (first_view plan (split + 1)) (cpu_view plan split (nothing plan))
splits plan id split room t r at = record {
  limits = r.limits;
  knows = r.knows;
  seat = dealt_at plan plan.cpus (nothing plan) tt t.views r.knows r.seat r.split r.covers id split tt tt (nothing plan) room at;
  split = split + 1;
  count = r.count;
  tally = r.tally;
  covers = covers-dealt plan plan.cpus (nothing plan) tt t.views r.knows r.seat r.split r.covers id split tt tt (nothing plan) room at;
}

-- the seat id, which has a part of its own, takes in the seat of CPU c
joins : {S : Type 0} (plan : TracePlan) (id : ℕ) (v : View) (x0 : Part) (other c : ℕ) (known : Known) → get_elem? v.parts 0 ≡ some x0
    → Joins {S = S} (RingRule plan) id v other (cpu_view plan c known) (joined v (cpu_view plan c known)) spent
joins plan id v x0 other c known own t r at apart at2 = record {
  limits = r.limits;
  knows = r.knows;
  seat = at_cpu r.seat c id;
  split = r.split;
  count = r.count;
  tally = r.tally;
  covers = covers-joined plan plan.cpus (nothing plan) tt t.views r.knows r.seat r.split r.covers id v x0 own other c tt known at apart at2 no_plan tt;
}

-- ## the same at seats that are known

pub deal-me : {S : Type 0} (plan : TracePlan) (id : ℕ) (me : Me S View) → ((split : ℕ) × (me ≡ (first_view plan split, [])) × (split < plan.cpus))
    → Splits {S = S} (RingRule plan) id me.0 (dealer me.0) (dealt me.0)
deal-me {S} plan id me known =
    subst (λ (m : Me S View). Splits {S = S} (RingRule plan) id m.0 (dealer m.0) (dealt m.0)) (sym known.1) (splits plan id known.0 known.2)

pub join-me : {S : Type 0} (plan : TracePlan) (id other : ℕ) (me me2 : Me S View)
    → ((split : ℕ) × (x : Part) × (xs : List Part) × (me ≡ (view plan split (x ∷ xs), [])))
    → ((c : ℕ) × (k : Known) × (me2 ≡ (cpu_view plan c k, [])))
    → Joins {S = S} (RingRule plan) id me.0 other me2.0 (joined me.0 me2.0) spent
join-me {S} plan id other me me2 host seat =
    subst (λ (m : Me S View × Me S View). Joins {S = S} (RingRule plan) id m.0.0 other m.1.0 (joined m.0.0 m.1.0) spent)
    (λ j. (sym host.3 j, sym seat.2 j))
    (joins plan id (view plan host.0 (host.1 ∷ host.2)) host.1 other seat.0 seat.1 refl)
