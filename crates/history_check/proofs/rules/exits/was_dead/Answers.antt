use Rattle.std.proofs.Common.{ap, sym, ◌∙◌, arith, inl, inr}
use Rattle.std.proofs.lemmas.Bool.{cases_eq}
use Rattle.ft_base.specs.Desk.{desk, is_live}
use Rattle.history_check.proofs.rules.exits.was_dead.Goals as goal

pub loop-k-preserved : goal.loop-k-preserved
loop-k-preserved c = λ job items k j low high.
    elim (cases_eq j c.loop-k.k) [
      | inl same ↦ ap (λ n. is_live (desk job n) c.args.visit.now.user.0 c.args.visit.now.reg) same ∙ sym (c.is_live.ensures job k.desks) ∙ c.if-not-is_live.false
      | inr other ↦ c.loop-k.invariant job items k j low (omega (arith, high, other))
    ]
