use Rattle.std.proofs.Common.{◌≡◌, length}
use Rattle.script_text.specs.Lines.{lines_of}
use Rattle.ft_script.specs.Causes.{is_last}
use Rattle.ft_script.proofs.last_act.is_last.Given as goal

abbrev pub invariant-loop-rest : goal.invariant-loop-rest
invariant-loop-rest l = is_last (lines_of l.rest) ≡ is_last (lines_of l.below)

abbrev pub decreases-loop-rest : goal.decreases-loop-rest
decreases-loop-rest l = length l.rest
