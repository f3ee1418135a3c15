use Rattle.std.proofs.Common.{arith}
use Rattle.word_map.specs.Shapes.{shape_of}
use Rattle.live_table.proofs.Joined.{has-clock}
use Rattle.live_table.proofs.LineStep.{line-allows, line-leads, line-sits, line-there, may-lead}
use Rattle.live_table.proofs.live.Live.lead.Goals as goal

pub make_begin-clock-requires-clause-word : goal.make_begin-clock-requires-clause-word
make_begin-clock-requires-clause-word c =
    let words = c.self.invariant.words in
    let clock = has-clock (shape_of c.self.inside.table.shared.key.job.value) in
    omega (arith, words, clock)

pub make_begin-clock-requires-clause-allows : goal.make_begin-clock-requires-clause-allows
make_begin-clock-requires-clause-allows c =
    let may = may-lead c.seat.inside.seat.me c.seat.inside.control c.args.command _ _ _ c.seat.view_is _ _ c.requires.control c.self.view_is c.self.invariant.limited
    _ c.requires.command.1 c.requires.ended c.requires.fresh in
    line-allows c.seat.inside.seat.me _ c.seat.invariant c.args.command _ may _ _

pub lead-requires-clause-there : goal.lead-requires-clause-there
lead-requires-clause-there c =
    let may = may-lead c.seat.inside.seat.me c.seat.inside.control c.args.command _ _ _ c.seat.view_is _ _ c.requires.control c.self.view_is c.self.invariant.limited
    _ c.requires.command.1 c.requires.ended c.requires.fresh in
    line-there c.seat.inside.seat.me _ c.seat.invariant c.args.command _ may

pub lead-requires-clause-fresh : goal.lead-requires-clause-fresh
lead-requires-clause-fresh c =
    let may = may-lead c.seat.inside.seat.me c.seat.inside.control c.args.command _ _ _ c.seat.view_is _ _ c.requires.control c.self.view_is c.self.invariant.limited
    _ c.requires.command.1 c.requires.ended c.requires.fresh in
    may.fresh

pub invariant_of-seat : goal.invariant_of-seat
invariant_of-seat c =
    let may = may-lead c.seat.inside.seat.me c.seat.inside.control c.args.command _ _ _ c.seat.view_is _ _ c.requires.control c.self.view_is c.self.invariant.limited
    _ c.requires.command.1 c.requires.ended c.requires.fresh in
    line-sits c.seat.inside.seat.me _ c.seat.invariant c.args.command _ may _ _ c.make_begin-clock.ensures.took
    _ c.lead.ensures.led c.lead.ensures.of c.lead.ensures.control
    _ c.got.ensures.of c.got.ensures.control c.got.ensures.all c.got.ensures.order c.got.ensures.items

pub returns : goal.returns
returns c =
    let may = may-lead c.seat.inside.seat.me c.seat.inside.control c.args.command _ _ _ c.seat.view_is _ _ c.requires.control c.self.view_is c.self.invariant.limited
    _ c.requires.command.1 c.requires.ended c.requires.fresh in
    line-leads c.seat.inside.seat.me _ c.seat.invariant c.args.command _ may _ _ c.make_begin-clock.ensures.took
    _ c.lead.ensures.led c.lead.ensures.of c.lead.ensures.control
    c.got.new.self c.got.ensures.order _ _ _ _ _ c.seat.view_is c.make_begin-clock.ensures.same.0 c.make_begin-clock.ensures.same.1
