use Rattle.std.proofs.Common.{◌≡◌, rules}
use Rattle.live_table.specs.declared.live.Going.TheVariants.{End}
use Rattle.live_seats.specs.AnySeats.{tables}
use Rattle.live_seats.specs.Seatings.{own_seats}
use Rattle.live_seats.proofs.Alike.{all_same_then, ended_all, same_all, same_table}
use Rattle.live_seats.proofs.here.step_all.Goals as goal
use Rattle.live_seats.proofs.here.step_all.Goals.{in-None, in-Some+then-eq}

pub loop-init : goal.loop-init
loop-init g c = same_all (own_seats c.args.here.now.items)

pub step_each-requires : goal.step_each-requires
step_each-requires g c =
    let sit = same_table (tables c.args.live.now c.args.rings.now) (own_seats c.args.here.now.items) (own_seats c.loop.here.items) c.requires c.loop.invariant in
    sit

pub loop-preserved : goal.loop-preserved
loop-preserved g c = all_same_then (own_seats c.args.here.now.items) (own_seats c.loop.here.items) (own_seats c.step_each.new.here.items) c.loop.invariant c.step_each.ensures.same

pub returns : goal.returns
returns g c = elim c.match-next.branch [
  | in-None w ↦ search rules
  | in-Some+then-eq w ↦
      (let over : w.step_each.result ≡ End = search rules in
      rw w.here-is (ended_all (own_seats c.args.here.now.items) (own_seats w.step_each.new.here.items)
      (all_same_then (own_seats c.args.here.now.items) (own_seats c.loop.here.items) (own_seats w.step_each.new.here.items) c.loop.invariant w.step_each.ensures.same)
      (w.step_each.ensures.end over)))
]
