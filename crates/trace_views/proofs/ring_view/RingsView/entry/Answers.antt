use Rattle.std.proofs.Common.{◌∷◌, length, reverse, ◌∙◌, subst}
use Rattle.ft_base.specs.declared.item.Item.{Item}
use Rattle.ft_hist.specs.Rules.{IsLegalPast}
use Rattle.ft_hist.proofs.RunLaws.{some_inj}
use Rattle.trace_views.specs.RingLines.{IsLineAt}
use Rattle.trace_views.proofs.RingTakes.{line-of-last}
use Rattle.trace_views.proofs.ring_view.RingsView.entry.Goals as goal

pub returns-then-is_on-clause-line : goal.returns-then-is_on-clause-line
returns-then-is_on-clause-line c = λ job past line followed legal place some.
    (let item = c.args.item.now in
    let known = subst (λ (x : Item). IsLegalPast job (x ∷ past)) c.in-Back.is legal in
    subst (IsLineAt job (reverse (item ∷ past)) (length past)) (some_inj c.back_line.result line some)
    (line-of-last job past item c.in-Back.call c.in-Back.user c.back_line.result c.in-Back.is (c.back_line.ensures.place ∙ place) c.back_line.ensures.user
    (c.back_line.ensures.text job past followed known place)))
