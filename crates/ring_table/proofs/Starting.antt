-- Seats to which nothing was offered.
use Rattle.std.proofs.Common.{◌≡◌, ℕ, ◌+◌, ◌-◌, List, [], ◌∷◌, ◌++◌, length, refl, sym, ap, ◌∙◌, subst, arith, length-append}
use Rattle.std.specs.Prelude.{slice_index}
use Rattle.std.proofs.lemmas.List.{length-replicate}
use Rattle.atomic_table.specs.Seated.{TableId}
use Rattle.ft_base.proofs.Small.{false_true, each-pushed}
use Rattle.circular_buffer.specs.Buffer.{keep_last}
use Rattle.ring_rules.specs.Plan.{TracePlan}
use Rattle.ring_rules.specs.Hits.{has}
use Rattle.ring_rules.specs.Legal.{EachOnce}
use Rattle.ring_rules.proofs.Lists.{drop-none, not-nil}
use Rattle.ring_rules.proofs.Numbers.{at-none, at-zero}
use Rattle.ring_table.specs.Seats.{AreFresh, AreNew, Board, IsNew, SeatHas, SeatPlace, fresh}

none-kept : (n : ℕ) → keep_last {X = ℕ} n [] ≡ []
none-kept n = drop-none (0 - n)

pub none-has : (table : TableId) (id : ℕ) (plan : TracePlan) (c room : ℕ) → SeatHas plan [] (fresh table id plan c room)
none-has table id plan c room = record {
  made = record {
    below = tt;
    least = λ p all. (omega arith);
    own' = refl;
    hits' = λ i lt. at-zero (length plan.triggers) i;
    count = length-replicate (length plan.triggers) [];
    places = λ i p lt h. false_true (sym (ap (λ l. has l p) (at-none (length plan.triggers) i)) ∙ h);
    once = λ i lt. subst EachOnce (sym (at-none (length plan.triggers) i)) tt;
    written = [];
    some_of = refl;
    keeps = λ j. record { written = 0; held = sym (none-kept plan.ring) j };
    missed = λ before after x e traced on not-in. not-nil before x after e;
    extra = λ before after x e traced off is-in. not-nil before x after e;
  };
  offered = omega arith;
}

pub fresh-new : (b : Board) (table : TableId) (plan : TracePlan) (rooms : List ℕ) (seats : List SeatPlace) → AreFresh table plan rooms seats plan.cpus
    → table ≡ b.table_id
    → plan ≡ b.plan → AreNew b rooms seats
fresh-new b table plan rooms seats f tables plans =
    subst (λ (z : TableId × TracePlan). AreNew (record { table_id = z.0; plan = z.1 }) rooms seats) (λ j. (tables j, plans j))
    record {
      count = f.count;
      each = λ c s e.
          let u = f.each c s e in
          subst (λ v. IsNew (record { table_id = table; plan = plan }) (slice_index rooms c) v c) (sym u.1)
          record { sits = (refl, refl); number' = refl; next' = refl; left' = refl; has' = none-has table u.0 plan c (slice_index rooms c) };
    }

-- one more seat
pub fresh-more : (table t : TableId) (id : ℕ) (plan : TracePlan) (rooms : List ℕ) (room n : ℕ) (seats seats' : List SeatPlace) (s : SeatPlace)
    → AreFresh table plan rooms seats n
    → s ≡ fresh t id plan n room → room ≡ slice_index rooms n → t ≡ table → seats' ≡ seats ++ s ∷ [] → AreFresh table plan rooms seats' (n + 1)
fresh-more table t id plan rooms room n seats seats' s f is room-is same more =
    subst (λ l. AreFresh table plan rooms l (n + 1)) (sym more)
    record {
      count = (let e = length-append seats (s ∷ []) in let m = f.count in omega (arith, e, m));
      each = each-pushed (λ c u. (d : ℕ) × (u ≡ fresh table d plan c (slice_index rooms c))) seats s f.each
          (id, is ∙ (λ j. fresh (same j) id plan n (room-is j)) ∙ ap (λ m. fresh table id plan m (slice_index rooms m)) (sym f.count));
    }
