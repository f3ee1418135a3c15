-- The rule of the table holds at the start.
use Rattle.std.proofs.Common.{◌≡◌, ℕ, zero, suc, Bool, true, false, List, [], ◌∷◌, length, replicate, inl, refl, sym, ap, ◌∙◌, subst, arith}
use Rattle.std.proofs.lemmas.List.{length-replicate}
use Rattle.atomic_table.specs.Table.{opening}
use Rattle.ft_base.proofs.Small.{false_true}
use Rattle.ring_rules.specs.Plan.{IsPlan, TracePlan}
use Rattle.ring_rules.specs.Hits.{quota, trigger}
use Rattle.ring_rules.proofs.Numbers.{at-zero, no-quota}
use Rattle.ring_rules.specs.RingInvariant.{total}
use Rattle.ring_table.specs.Views.{first_view, nothing}
use Rattle.ring_table.specs.Tally.{IsTally, Others, bit, fired_of, hits_of, saw}
use Rattle.ring_table.specs.Rule.{RingRule}
use Rattle.dealt_seats.proofs.Moves.{covers-first}

none-total : (n : ℕ) (f : ℕ → ℕ) → ((c : ℕ) → f c ≡ 0) → total n f ≡ 0
none-total zero f each = refl
none-total (suc n) f each = let e = none-total n f each in let d = each n in omega (arith, e, d)

unseen : (plan : TracePlan) (c : ℕ) (b : Bool) → saw (nothing plan) b ≡ true → Others plan (λ c. nothing plan) c b
unseen plan c true e = false_true e
unseen plan c false e = false_true e

pub none-tallied : (plan : TracePlan) → IsTally plan (bit plan.tracing ∷ replicate (length plan.triggers) 0) (λ c. nothing plan)
none-tallied plan = record {
  on = plan.tracing;
  switch = refl;
  lengths = λ c. (length-replicate (length plan.triggers) 0, length-replicate (length plan.triggers) 0);
  few = λ c i. (let e = at-zero (length plan.triggers) i in omega (arith, e));
  tickets = λ i lt. at-zero (length plan.triggers) i
      ∙ sym (none-total plan.cpus (λ c. hits_of (nothing plan) i) (λ c. at-zero (length plan.triggers) i));
  fired = λ i lt.
      none-total plan.cpus (λ c. fired_of (nothing plan) i) (λ c. at-zero (length plan.triggers) i)
      ∙ sym (ap (quota (trigger plan i).limit) (at-zero (length plan.triggers) i) ∙ no-quota (trigger plan i).limit);
  agrees = λ c. inl refl;
  saw' = λ c b e. unseen plan c b e;
}

opens-at : {S : Type 0} (plan : TracePlan) → IsPlan plan
    → RingRule {S = S} plan (opening (bit plan.tracing ∷ replicate (length plan.triggers) 0) [] (first_view plan 0))
opens-at {S} plan limits = record {
  limits = limits;
  knows = λ a. nothing plan;
  seat = λ a. 0;
  split = 0;
  count = ap suc (length-replicate (length plan.triggers) 0);
  tally = none-tallied plan;
  covers = covers-first plan plan.cpus (nothing plan) tt;
}

pub opens : {S : Type 0} (plan : TracePlan) → IsPlan plan → (words : List ℕ) → words ≡ bit plan.tracing ∷ replicate (length plan.triggers) 0
    → RingRule {S = S} plan (opening words [] (first_view plan 0))
opens {S} plan limits words is =
    subst (λ ws. RingRule {S = S} plan (opening ws [] (first_view plan 0))) (sym is) (opens-at plan limits)
