use Rattle.std.proofs.Common.{◌≡◌, ◌↔◌, ◌∙◌, IsTrue, ap, sym, subst, arith}
use Rattle.glob_filter.specs.Matching.{Fits, is_fit}
use Rattle.glob_filter.specs.Places.{matches_from}
use Rattle.glob_filter.proofs.Fitting.{is_fit-Fits}
use Rattle.glob_filter.proofs.pattern.Pattern.matches.Goals as goal

pub returns-clause-test : goal.returns-clause-test
returns-clause-test c =
    let places = c.self.inside.places in
    c.matches.ensures ∙ ap (matches_from places.takes.items places.stars.items places.start) c.as_bytes.ensures.value
    ∙ c.self.invariant c.args.name.now (λ k. omega (arith, c.type_inv.name k)) ∙ ap (λ items. is_fit items c.args.name.now) c.self.view_is

pub returns-clause-relation : goal.returns-clause-relation
returns-clause-relation c =
    let same : c.matches.result ≡ is_fit c.args.self.now c.args.name.now = returns-clause-test c in
    subst (λ fits. IsTrue fits ↔ Fits c.args.self.now c.args.name.now) (sym same) (is_fit-Fits c.args.self.now c.args.name.now)
