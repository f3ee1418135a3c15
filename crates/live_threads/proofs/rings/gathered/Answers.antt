use Rattle.std.proofs.Common.{subst}
use Rattle.ft_base.specs.Job.{Job}
use Rattle.ft_hist.specs.Rules.{IsLegal, IsWhole}
use Rattle.live_table.specs.Seats.{IsMadeByTurns}
use Rattle.live_threads.proofs.RingSeats.{legal_rings}
use Rattle.live_threads.proofs.rings.gathered.Goals as goal

pub returns-clause-whole : goal.returns-clause-whole
returns-clause-whole c = subst (λ (j : Job). IsWhole j c.in-Ok.history.items) c.requires.led (c.in-Ok.ensures.whole c.requires.ended)

pub returns-clause-turns : goal.returns-clause-turns
returns-clause-turns c = subst (λ (j : Job). IsMadeByTurns j c.in-Ok.history.items) c.requires.led c.in-Ok.ensures.turns

pub returns-clause-legal : goal.returns-clause-legal
returns-clause-legal c =
    let e = c.args.ended in
    let h = c.in-Ok in
    let legal = subst (λ (j : Job). IsLegal j h.history.items) c.requires.led h.ensures.legal in
    legal_rings c.args.live c.requires.limited e.control e.cpus.items e.rings.items c.requires.cpus c.requires.traced h.history.items h.ensures.items
    h.ensures.placed c.args.table.plan c.in-Ok-close.rings c.requires.plan legal c.in-Ok-close.ensures.legal
