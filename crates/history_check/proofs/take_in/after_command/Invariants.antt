use Rattle.std.proofs.Common.{◌≡◌, ℕ, length}
use Rattle.ft_desk.specs.Lines.{lines_of}
use Rattle.history_check.specs.JudgePast.{lines_after}
use Rattle.history_check.proofs.take_in.after_command.Given as goal

-- the next command is the same from here on
abbrev pub invariant-loop-line : goal.invariant-loop-line
invariant-loop-line l = (n : ℕ) → lines_after 1 (lines_of n l.rest) ≡ lines_after 1 (lines_of n l.lines)

abbrev pub decreases-loop-line : goal.decreases-loop-line
decreases-loop-line l = length l.rest
