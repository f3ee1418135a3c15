use Rattle.std.proofs.Common.{ap, ◌∙◌, Some}
use Rattle.ring_rules.proofs.FiredPlaces.{hit-call, once-at}
use Rattle.ring_rules.specs.Hits.{trigger}
use Rattle.ring_rules.specs.Legal.{fired_at}
use Rattle.ring_rules.proofs.laws.triggers_fire_as_often_as_they_may.Goals as goal

pub returns-clause-times : goal.returns-clause-times
returns-clause-times c = λ plan history rings i legal within. (legal.fired i within).times

pub returns-clause-calls : goal.returns-clause-calls
returns-clause-calls c = λ plan history rings i p legal within at.
    let x = (legal.fired i within).hits p at in
    let h = hit-call (trigger plan i) x.0 x.2 in
    (h.0, h.1, h.2, h.3, x.1 ∙ ap (λ item. Some item) h.4, h.5)

pub returns-clause-apart : goal.returns-clause-apart
returns-clause-apart c = λ plan history rings i j k p legal within at there. once-at (fired_at rings.fired i) (legal.fired i within).once j k p at there
