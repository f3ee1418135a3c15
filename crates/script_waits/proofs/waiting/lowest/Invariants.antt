use Rattle.std.proofs.Common.{map}
use Rattle.script_waits.specs.Tasks.{lined_task, tracks_of}
use Rattle.script_waits.specs.Greedy.{IsLeast}
use Rattle.script_waits.proofs.Least.{WaitsTo}
use Rattle.script_waits.proofs.waiting.lowest.Given as goal

abbrev pub invariant-loop-t : goal.invariant-loop-t
invariant-loop-t l = IsLeast (WaitsTo (tracks_of (map lined_task l.tasks)) l.control (record { acts = l.at; lines = l.lines }) l.t) l.low
