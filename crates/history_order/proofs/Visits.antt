-- The places of visits and exits: each is before the past's end, and visits stand in a past the latest first.
use Rattle.std.proofs.Common.{cond, ◌≡◌, ◌<◌, Bool, true, false, List, [], ◌∷◌, length, refl, subst, arith, Contains}
use Rattle.std.specs.List.{AllByRecursion as Each}
use Rattle.ft_base.specs.declared.number.CallNo.{CallNo}
use Rattle.ft_base.specs.declared.item.Item.{Item}
use Rattle.ft_base.specs.declared.item.Item.TheVariants.{Back, Refuse, Exit}
use Rattle.ft_base.specs.Same.{same_call}
use Rattle.ft_base.specs.Job.{Job}
use Rattle.ft_base.proofs.Small.{Each-weaker, Each-filter}
use Rattle.ft_hist.specs.Past.{Visit, visit, all_visits, visits, exits}
use Rattle.ft_hist.specs.Rules.{IsLegalPast}
use Rattle.ft_hist.proofs.RunLaws.{same_call-eq}
use Rattle.ft_hist.proofs.ExitItems.{each-of}

-- each visit is at an earlier place than those before it in the list
abbrev pub Falls : List Visit → Type 0
Falls [] = Unit {0}
Falls (m ∷ ms) = Each (λ n. n.place < m.place) ms × Falls ms

tail-of : (P : Visit → Type 0) (b : Bool) (m : Visit) (ms : List Visit) → Each P (cond b (m ∷ ms) ms) → Each P ms
tail-of P true m ms h = h.1
tail-of P false m ms h = h

module _ (job : Job) where
  later : (item : Item) (past : List Item) → Each (λ m. m.place < length past) (all_visits job past) → Each (λ m. m.place < length (item ∷ past)) (all_visits job past)
  later item past h = Each-weaker (λ m. m.place < length past) (λ m. m.place < length (item ∷ past)) (all_visits job past) (λ m lt. omega (arith, lt)) h

  all-before : (past : List Item) → Each (λ m. m.place < length past) (all_visits job past)
  unfolding all_visits
  all-before [] = tt
  all-before (Back c u ∷ past) = (omega arith, later (Back c u) past (all-before past))
  all-before (Refuse c u reason ∷ past) = (omega arith, later (Refuse c u reason) past (all-before past))
  all-before (item ∷ past) = later item past (all-before past)

  module _ (call : CallNo) where
    pub visits-before : (past : List Item) → Each (λ m. m.place < length past) (visits job call past)
    visits-before past = Each-filter (λ m. m.place < length past) (λ m. same_call m.call call) (all_visits job past) (all-before past)

    one-more : (b : Bool) (m : Visit) (ms : List Visit) → Each (λ n. n.place < m.place) ms → Falls ms → Falls (cond b (m ∷ ms) ms)
    one-more true m ms lower h = (lower, h)
    one-more false m ms lower h = h

    pub visits-fall : (past : List Item) → Falls (visits job call past)
    unfolding all_visits
    visits-fall [] = tt
    visits-fall (Back c u ∷ past) = one-more (same_call c call) (visit job c u.0 past (all_visits job past) true) (visits job call past) (visits-before past) (visits-fall past)
    visits-fall (Refuse c u reason ∷ past) = one-more (same_call c call) (visit job c u.0 past (all_visits job past) false) (visits job call past) (visits-before past) (visits-fall past)
    visits-fall (item ∷ past) = visits-fall past

    -- what holds of all visits of a legal past holds of those whose exits the call has had
    pub exits-of : (P : Visit → Type 0) (past : List Item) → IsLegalPast job past → Each P (visits job call past) → Each (λ e. (m : Visit) × P m × (m.place ≡ e)) (exits call past)
    unfolding IsLegalPast all_visits
    exits-of P [] l h = tt
    exits-of P (Back c u ∷ past) l h = exits-of P past l.1 (tail-of P (same_call c call) (visit job c u.0 past (all_visits job past) true) (visits job call past) h)
    exits-of P (Refuse c u reason ∷ past) l h = exits-of P past l.1 (tail-of P (same_call c call) (visit job c u.0 past (all_visits job past) false) (visits job call past) h)
    exits-of P (Exit c u entry ∷ past) l h = by (same_call c call) refl (exits-of P past l.1 h)
      where
        by : (b : Bool) → same_call c call ≡ b → Each (λ e. (m : Visit) × P m × (m.place ≡ e)) (exits call past) → Each (λ e. (m : Visit) × P m × (m.place ≡ e)) (cond b (entry ∷ exits call past) (exits call past))
        by true e more =
            let of = l.0.exits.0.of in
            let there : Contains (visits job call past) of.0 = subst (λ (d : CallNo). Contains (visits job d past) of.0) (same_call-eq c call e) of.1 in
            ((of.0, each-of P (visits job call past) of.0 there h, of.3), more)
        by false e more = more
    exits-of P (item ∷ past) l h = exits-of P past l.1 h
