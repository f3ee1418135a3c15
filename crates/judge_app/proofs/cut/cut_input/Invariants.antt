use Rattle.std.proofs.Common.{◌-◌, ◌≤◌, drop, length, take}
use Rattle.judge_app.proofs.CutLaws.{Sought}
use Rattle.judge_app.proofs.cut.cut_input.Given as goal

abbrev pub invariant-loop-log : goal.invariant-loop-log
invariant-loop-log l = (l.at ≤ length l.input) × Sought l.input (take l.at l.input) (drop l.at l.input) l.line

abbrev pub decreases-loop-log : goal.decreases-loop-log
decreases-loop-log l = length l.input - l.at
