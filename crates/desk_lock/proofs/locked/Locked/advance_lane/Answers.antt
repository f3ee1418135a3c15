use Rattle.std.proofs.Common.{◌∙◌, refl, slice_index}
use Rattle.desk_lock.proofs.Keeping.{turn_nearer, turn_others, turn_whole}
use Rattle.desk_lock.proofs.locked.Locked.advance_lane.Goals as goal

pub loop-left-init : goal.loop-left-init
loop-left-init g c = record { whole = λ e. absurd (cc); others = λ m ne. refl }

pub loop-left-smaller : goal.loop-left-smaller
loop-left-smaller g c =
    let e = c.advance-left.ensures in
    turn_nearer (slice_index g.N.LaneNames.counts c.args.lane) c.args.lane c.loop-left.self c.advance-left.new.self c.advance-left.result e.left e.served e.all e.none
    c.loop-left.left c.loop-left-test.true

pub loop-left-preserved : goal.loop-left-preserved
loop-left-preserved g c =
    let e = c.advance-left.ensures in
    record {
      whole = turn_whole (slice_index g.N.LaneNames.counts c.args.lane) c.args.lane c.loop-left.self c.advance-left.new.self c.advance-left.result e.left e.served e.all e.none;
      others = λ m ne.
          turn_others (slice_index g.N.LaneNames.counts c.args.lane) c.args.lane c.loop-left.self c.advance-left.new.self c.advance-left.result e.left e.served e.all e.none m ne
          ∙ c.loop-left.invariant.others m ne;
    }
