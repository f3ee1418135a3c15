use Rattle.ft_script.proofs.Masks.{IsMaskOf, listed_marks}
use Rattle.ft_script.proofs.reader.find.pid_mask.Given as goal

abbrev pub invariant-loop-i : goal.invariant-loop-i
invariant-loop-i l = IsMaskOf (listed_marks l.list l.tasks) l.i l.mask
