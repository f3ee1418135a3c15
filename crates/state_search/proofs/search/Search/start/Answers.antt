use Rattle.std.proofs.Common.{[], sym, subst}
use Rattle.state_search.specs.Searches.{Passes, Tells}
use Rattle.state_search.proofs.Reach.{started}
use Rattle.state_search.proofs.search.Search.start.Goals as goal

pub returns : goal.returns
returns g c =
    let r = g.R.Race.meaning c.args.race.now in
    subst (λ states. Passes r states c.tell.new.outcomes 0) (sym c.in_ok-states.ensures)
    (started r (g.met.R.Race.exact c.args.race.now) c.tell.new.outcomes c.in_ok-key.key.items
    (subst (λ es. Tells r [] es c.tell.new.outcomes) c.new-outcomes.ensures (subst (λ s. Tells r s c.new-outcomes.result c.tell.new.outcomes) c.new-schedule.ensures.items c.in_ok-tell.ensures))
    (c.in_ok-key.ensures [] c.in_ok-machine.ensures))
