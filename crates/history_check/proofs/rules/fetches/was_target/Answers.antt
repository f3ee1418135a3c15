-- The target of the function was that, or it was another each time.
use Rattle.std.proofs.Common.{◌≡◌, sym, ◌∙◌, subst, arith, inl, inr}
use Rattle.std.proofs.lemmas.Bool.{cases_eq}
use Rattle.ft_base.specs.Desk.{desk, target}
use Rattle.history_check.proofs.RuleCalls.{window}
use Rattle.history_check.proofs.RuleNamed.{func-named}
use Rattle.history_check.proofs.RuleTests.{fails, yes}
use Rattle.history_check.proofs.rules.fetches.was_target.Goals as goal

pub returns-then-is_same : goal.returns-then-is_same
returns-then-is_same c = λ job items k top.
    let t = c.args.top.now in
    let here = c.ran.ensures job k.desks (func-named job items c.args.past.now t k top) in
    let lt = c.loop-k-test.true in
    let begun = k.begun' in
    yes ((window job items t.call t top (λ n. c.args.ran ≡ target (desk job n) t.func.0)).0
    (c.loop-k.k, c.loop-k.auto.k, omega (arith, lt, begun), sym (c.is_same.ensures.0 c.if-is_same.true) ∙ here))

pub loop-k-preserved : goal.loop-k-preserved
loop-k-preserved c = λ job items k top j low high e.
    let t = c.args.top.now in
    let here = c.ran.ensures job k.desks (func-named job items c.args.past.now t k top) in
    elim (cases_eq j c.loop-k.k) [
      | inl same ↦
          fails c.is_same.result c.is_same.ensures c.if-is_same.false (here ∙ sym (subst (λ n. c.args.ran ≡ target (desk job n) t.func.0) same e))
      | inr other ↦ c.loop-k.invariant job items k top j low (omega (arith, high, other)) e
    ]
