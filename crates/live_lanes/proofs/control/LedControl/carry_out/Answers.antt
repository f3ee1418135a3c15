use Rattle.std.proofs.Common.{refl, ◌∙◌}
use Rattle.live_seats.specs.AnySeats.{without_rings}
use Rattle.live_seats.specs.Seatings.{own_seats}
use Rattle.live_seats.proofs.Alike.{all_same_then, same_all, same_table}
use Rattle.live_lanes.proofs.control.LedControl.carry_out.Goals as goal

pub loop-init : goal.loop-init
loop-init g c = record {
  control = record { table_id = refl; id = refl; job = refl; led = refl; order = refl; split = refl };
  here = same_all (own_seats c.args.here.now.items);
}

pub step_each-requires : goal.step_each-requires
step_each-requires g c = same_table (without_rings c.args.live.now) (own_seats c.args.here.now.items) (own_seats c.loop.here.items) c.requires.here
    c.loop.invariant.here

pub loop-preserved : goal.loop-preserved
loop-preserved g c =
    let i = c.loop.invariant.control in
    let s = c.step.ensures.same in
    record {
      control = record {
        table_id = s.table_id ∙ i.table_id;
        id = s.id ∙ i.id;
        job = s.job ∙ i.job;
        led = s.led ∙ i.led;
        order = s.order ∙ i.order;
        split = s.split ∙ i.split;
      };
      here = all_same_then (own_seats c.args.here.now.items) (own_seats c.loop.here.items) (own_seats c.step_each.new.here.items)
          c.loop.invariant.here c.step_each.ensures.same;
    }
