use Rattle.std.proofs.Common.{take}
use Rattle.trace_views.specs.Counted.{IsCounted}
use Rattle.trace_views.proofs.counts.counted.Given as goal

abbrev pub invariant-loop-place : goal.invariant-loop-place
invariant-loop-place l = IsCounted (take l.place l.history.items) l.counts
