use Rattle.std.proofs.Common.{ap, sym, ◌∙◌, arith, inl, inr}
use Rattle.std.proofs.lemmas.Bool.{cases_eq}
use Rattle.ft_base.specs.Desk.{desk, is_on}
use Rattle.history_check.proofs.desks.Desks.was_off.Goals as goal

pub loop-k-preserved : goal.loop-k-preserved
loop-k-preserved c = λ job are j low high.
    elim (cases_eq j c.loop-k.k) [
      | inl same ↦ ap (λ n. is_on (desk job n) c.args.u.0 c.args.f.0) same ∙ sym (c.is_on.ensures job are) ∙ c.if-not-is_on.false
      | inr other ↦ c.loop-k.invariant job are j low (omega (arith, high, other))
    ]
