use Rattle.std.proofs.Common.{sym, ◌∙◌, inl, inr}
use Rattle.ft_base.proofs.Small.{false_true}
use Rattle.history_check.proofs.RuleTests.{fails, yes}
use Rattle.history_check.proofs.rules.exits.is_settled.Goals as goal

pub returns-then-not-has_exit : goal.returns-then-not-has_exit
returns-then-not-has_exit c = λ job items k.
    yes (λ exit. absurd (fails c.has_exit.result (c.has_exit.ensures job items c.args.top.now.call k) c.if-not-has_exit.true exit))

pub returns-then-had : goal.returns-then-had
returns-then-had c = λ job items k. yes (λ exit. inl (sym c.has_exit-had.ensures ∙ c.if-had.true))

pub returns : goal.returns
returns c = λ job items k.
    let exit = (c.has_exit.ensures job items c.args.top.now.call k).0 c.if-not-has_exit.false in
    let dead = c.was_dead.ensures job items k in (
      λ e x. inr (dead.0 e),
      λ h. elim (h exit) [
        | inl had ↦ false_true (sym (sym c.has_exit-had.ensures ∙ c.if-had.false) ∙ had)
        | inr gone ↦ dead.1 gone
      ],
    )
