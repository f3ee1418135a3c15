use Rattle.std.proofs.Common.{refl, subst}
use Rattle.ft_base.specs.Job.{Job}
use Rattle.ft_hist.specs.Rules.{IsWhole}
use Rattle.live_table.specs.Seats.{IsMadeByTurns}
use Rattle.ft_app.proofs.run.gathered.Goals as goal

pub returns-in-Ok : goal.returns-in-Ok
returns-in-Ok c = record {
  whole = subst (λ (j : Job). IsWhole j c.in-Ok.history.items) c.requires.led (c.in-Ok.ensures.whole c.requires.ended);
  ended' = refl;
  made = subst (λ (j : Job). IsMadeByTurns j c.in-Ok.history.items) c.requires.led c.in-Ok.ensures.turns;
}
