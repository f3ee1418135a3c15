use Rattle.std.proofs.Common.{◌≡◌, ◌≤◌, ◌<◌, ℕ, false, [], List, length, map, get_or, slice_get}
use Rattle.script_waits.specs.declared.script.ControlLine.{ControlLine}
use Rattle.script_waits.specs.Tasks.{lined_task, tracks_of}
use Rattle.script_waits.specs.Greedy.{commands_in, passes_act, Reaches}
use Rattle.script_waits.proofs.progress.go_tasks.Given as goal

abbrev pub invariant-loop-t : goal.invariant-loop-t
invariant-loop-t l = record {
  within : (k : ℕ) → get_or l.at k 0 ≤ length (get_or (tracks_of (map lined_task l.tasks)) k []);
  reached : (lines : List ControlLine) (n : ℕ) → l.commands ≡ commands_in lines n
      → Reaches (tracks_of (map lined_task l.tasks)) lines (record { acts = l.initial.at; lines = n })
      → Reaches (tracks_of (map lined_task l.tasks)) lines (record { acts = l.at; lines = n });
  stops : (k : ℕ) → k < l.t → passes_act l.commands (slice_get (get_or (tracks_of (map lined_task l.tasks)) k []) (get_or l.at k 0)) ≡ false;
}
