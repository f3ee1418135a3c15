use Rattle.std.proofs.Common.{◌≡◌, ◌++◌, drop}
use Rattle.judge_app.specs.Lanes.{told, told_order}
use Rattle.judge_app.proofs.lanes.order_told.Given as goal

-- the order so far, and then what the other names tell of the lines that are left
abbrev pub invariant-loop-lane : goal.invariant-loop-lane
invariant-loop-lane l = l.order.items ++ told l.lanes (drop l.lane-index l.named) l.left.items ≡ told_order l.lanes l.named
