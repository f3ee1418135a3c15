use Rattle.std.proofs.Common.{sym, subst, ◌<◌}
use Rattle.std.proofs.lemmas.List.Elements.{All-push}
use Rattle.state_search.specs.Entries.{IsAdded}
use Rattle.state_search.specs.Races.{IsSchedule}
use Rattle.state_search.specs.Searches.{Arrives}
use Rattle.state_search.proofs.Reach.{arrived}
use Rattle.state_search.proofs.search.Search.go_on.Goals as goal

pub replay-requires : goal.replay-requires
replay-requires g c =
    let e = c.in_ok-before.ensures in
    let is = (c.requires.search.each c.args.step.before e.0 c.in_ok-before.before.items e.1).schedule in
    subst (IsSchedule (g.R.Race.meaning c.args.race.now)) (sym c.as_slice.ensures.value) is

pub tell-requires-clause-schedule : goal.tell-requires-clause-schedule
tell-requires-clause-schedule g c =
    let e = c.in_ok-before.ensures in
    let is = (c.requires.search.each c.args.step.before e.0 c.in_ok-before.before.items e.1).schedule in
    subst (IsSchedule (g.R.Race.meaning c.args.race.now)) (sym c.in_ok-schedule.ensures)
    (All-push (λ b. b < (g.R.Race.meaning c.args.race.now).actors) c.in_ok-before.before.items c.args.step.actor is c.requires.actor)

pub returns : goal.returns
returns g c =
    let r = g.R.Race.meaning c.args.race.now in
    let e = c.in_ok-before.ensures in
    let is = (c.requires.search.each c.args.step.before e.0 c.in_ok-before.before.items e.1).schedule in
    let next = All-push (λ b. b < (g.R.Race.meaning c.args.race.now).actors) c.in_ok-before.before.items c.args.step.actor is c.requires.actor in
    let after = c.step.ensures c.in_ok-before.before.items (subst (λ s. g.R.Race.IsAfter c.args.race.now s c.in_ok-machine.machine) c.as_slice.ensures.value c.in_ok-machine.ensures) in (
      e.0,
      c.in_ok-before.before.items,
      e.1,
      subst (λ s. Arrives r s c.args.self.now.states c.add.new.self c.tell.new.outcomes) c.in_ok-schedule.ensures
          (arrived r (g.met.R.Race.exact c.args.race.now) c.in_ok-add.field-0 c.args.self.now.states c.add.new.self c.args.self.now.outcomes c.tell.new.outcomes c.in_ok-key.key.items c.in_ok-schedule.schedule.items
          c.requires.search (subst (IsSchedule r) (sym c.in_ok-schedule.ensures) next) c.in_ok-tell.ensures
          (c.in_ok-key.ensures c.in_ok-schedule.schedule.items (subst (λ s. g.R.Race.IsAfter c.args.race.now s c.step.new.machine) (sym c.in_ok-schedule.ensures) after))
          (subst (λ s. IsAdded c.in_ok-add.field-0 c.args.self.now.states c.in_ok-key.key.items s c.add.new.self) (sym c.in_ok-schedule.ensures) (c.in_ok-add.ensures e.0 c.in_ok-before.before.items e.1))),
    )
