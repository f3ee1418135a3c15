use Rattle.std.proofs.Common.{◌∙◌, sym, ap}
use Rattle.desk_lock.specs.Journals.{done_of}
use Rattle.live_seats.specs.Seatings.{own_seats}
use Rattle.live_lanes.specs.Conducted.{Conducted, actors_of}
use Rattle.live_lanes.specs.LaneItems.{as_items}
use Rattle.live_lanes.proofs.Conducting.{conducted_command, conducted_fresh, conducted_more, conducted_sit, same_actors}
use Rattle.live_lanes.proofs.conductor.ConductorServed.serve.Goals as goal

pub lead-requires-clause-command : goal.lead-requires-clause-command
lead-requires-clause-command g c =
    let s = c.self.inside in
    let v = sym c.self.view_is in
    let e = c.command_of-command.ensures in
    let r = c.requires in
    conducted_command g.N.TableNames.board g.N.LaneNames.counts g.N.LaneNames.name g.N.TableNames.here s.live.now s.lanes.now s.control.seat
    (own_seats s.here.items) c.self.invariant
    c.command_of-command.result c.args.lane c.args.item e.within e.lane e.item r.lane
    (r.next ∙ ap (λ (w : Conducted). done_of c.args.lane (as_items w.lanes w.control.order)) v)

pub lead-requires-clause-fresh : goal.lead-requires-clause-fresh
lead-requires-clause-fresh g c =
    let s = c.self.inside in
    let v = sym c.self.view_is in
    let e = c.command_of-command.ensures in
    let r = c.requires in
    conducted_fresh g.N.TableNames.board g.N.LaneNames.counts g.N.LaneNames.name g.N.TableNames.here s.live.now s.lanes.now s.control.seat
    (own_seats s.here.items) c.self.invariant
    c.command_of-command.result c.args.lane c.args.item e.within e.lane e.item r.lane
    (r.next ∙ ap (λ (w : Conducted). done_of c.args.lane (as_items w.lanes w.control.order)) v)

pub carry_out-requires-clause-here : goal.carry_out-requires-clause-here
carry_out-requires-clause-here g c =
    let s = c.self.inside in
    conducted_sit g.N.TableNames.board g.N.LaneNames.counts g.N.LaneNames.name g.N.TableNames.here s.live.now s.lanes.now s.control.seat
    (own_seats s.here.items) c.self.invariant

pub invariant_of-self : goal.invariant_of-self
invariant_of-self g c =
    let s = c.self.inside in
    let v = sym c.self.view_is in
    let e = c.command_of-command.ensures in
    let r = c.requires in
    let l = c.lead.ensures in
    let o = c.carry_out.ensures in
    conducted_more g.N.TableNames.board g.N.LaneNames.counts g.N.LaneNames.name g.N.TableNames.here s.live.now s.lanes.now s.control.seat
    (own_seats s.here.items) c.self.invariant
    c.command_of-command.result c.args.lane c.args.item e.within e.lane e.item r.lane
    (r.next ∙ ap (λ (w : Conducted). done_of c.args.lane (as_items w.lanes w.control.order)) v)
    r.below c.carry_out.new.self.seat (own_seats c.carry_out.new.here.items) (o.control.0.table_id ∙ l.table_id) (o.control.0.job ∙ l.job)
    (o.control.0.order ∙ l.order) o.control.1 o.here

pub returns-clause-name : goal.returns-clause-name
returns-clause-name g c =
    same_actors (own_seats c.self.inside.here.items) (own_seats c.carry_out.new.here.items) c.carry_out.ensures.here
    ∙ ap (λ (v : Conducted). actors_of v.here) c.self.view_is
