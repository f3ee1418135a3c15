use Rattle.std.proofs.Common.{sym, ◌∙◌}
use Rattle.state_search.proofs.Reach.{told}
use Rattle.state_search.proofs.search.tell.Goals as goal

pub returns : goal.returns
returns g c =
    told (g.R.Race.meaning c.args.race.now) c.in_ok-add.field-0 c.args.outcomes.now c.add.new.self c.in_ok-outcome.outcome.items c.args.schedule
    c.requires.shown c.requires.schedule (sym (c.ended.ensures c.args.schedule.items c.requires.machine) ∙ c.if-not-ended.false)
    (c.in_ok-outcome.ensures c.args.schedule.items c.requires.machine) c.in_ok-add.ensures.added
