use Rattle.std.proofs.Common.{arith}
use Rattle.state_search.proofs.Entries.{grows-within}
use Rattle.state_search.proofs.Reach.{turn-first, turn-next, passed-more}
use Rattle.state_search.proofs.search.Search.go_on_from.Goals as goal

pub loop-actor-init : goal.loop-actor-init
loop-actor-init g c = record {
  turns = turn-first (g.R.Race.meaning c.args.race.now) c.args.self.now.states c.args.self.now.outcomes c.args.at c.requires.passes.search;
  count = c.actors-actor-end.ensures;
  within = c.requires.within;
}

pub loop-actor-preserved : goal.loop-actor-preserved
loop-actor-preserved g c =
    let r = g.R.Race.meaning c.args.race.now in
    let w = c.in_ok-go_on.ensures in
    record {
      turns = turn-next r c.args.self.now.states c.loop-actor.self.states c.go_on.new.self.states c.loop-actor.self.outcomes c.go_on.new.self.outcomes c.args.at c.loop-actor.actor
          c.loop-actor.invariant.turns w;
      count = c.actors-actor-end.ensures;
      within = grows-within c.loop-actor.self.states c.go_on.new.self.states c.args.at w.3.grows c.loop-actor.invariant.within;
    }

pub returns : goal.returns
returns g c =
    passed-more (g.R.Race.meaning c.args.race.now) c.args.self.now.states c.loop-actor.self.states c.args.self.now.outcomes c.args.at c.loop-actor.actor
    c.requires.passes c.requires.within (omega (arith, c.loop-actor-test.false, c.actors-actor-end.ensures)) c.loop-actor.self.outcomes c.loop-actor.invariant.turns
