use Rattle.std.proofs.Common.{◌≡◌, ◌≤◌, ◌-◌, ℕ, [], length, map, get_or}
use Rattle.script_waits.specs.Tasks.{lined_task, tracks_of}
use Rattle.script_waits.specs.Greedy.{commands_in, Reaches}
use Rattle.script_waits.proofs.ending.deadlock.Given as goal

abbrev pub invariant-loop-place : goal.invariant-loop-place
invariant-loop-place l = record {
  lengths : length l.at.items ≡ length l.tasks;
  within : (k : ℕ) → get_or l.at.items k 0 ≤ length (get_or (tracks_of (map lined_task l.tasks)) k []);
  inside : l.place.lines ≤ length l.control;
  few : l.place.commands ≤ l.place.lines;
  counted : l.place.commands ≡ commands_in l.control l.place.lines;
  reached : Reaches (tracks_of (map lined_task l.tasks)) l.control (record { acts = l.at.items; lines = l.place.lines });
}

abbrev pub decreases-loop-place : goal.decreases-loop-place
decreases-loop-place l = length l.control - l.place.lines
