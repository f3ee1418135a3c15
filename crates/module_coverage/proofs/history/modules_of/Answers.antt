use Rattle.std.proofs.Common.{◌≡◌, max, None, Some, inl, inr, sym, ◌∙◌, subst, arith}
use Rattle.std.proofs.lemmas.Bool.{cases_lt}
use Rattle.std.proofs.lemmas.List.{get_or_default}
use Rattle.module_coverage.specs.Plan.{owner_in}
use Rattle.module_coverage.proofs.history.modules_of.Goals as goal

pub loop-owner-preserved : goal.loop-owner-preserved
loop-owner-preserved c =
    let inv = c.loop-owner.invariant in
    let os = c.args.owners.now in
    let i = c.loop-owner.owner-index in
    let inside = c.loop-owner-test.true in
    let top : c.max-end.result ≡ max c.loop-owner.end c.end_of-own.result = c.max-end.ensures in
    record {
      above = λ f m low is. elim (cases_lt f i) [
        | inl below ↦ omega (arith, inv.above f m below is, top)
        | inr over ↦
            (let same : f ≡ i = omega (arith, low, over) in
            let own = c.end_of-own.ensures.above m (get_or_default os i _ None inside ∙ subst (λ n. owner_in os n ≡ Some m) same is) in
            omega (arith, own, top))
      ];
      least = λ k all.
          (let own = c.end_of-own.ensures.least k (λ m is. all i m (sym (get_or_default os i _ None inside) ∙ is)) in
          omega (arith, inv.least k all, own, top));
    }
