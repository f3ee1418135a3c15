use Rattle.std.proofs.Common.{◌≡◌, ◌++◌, ℕ, map}
use Rattle.std.specs.Vec.Iter.{into_iter_items}
use Rattle.ft_desk.specs.Lines.{lines_of}
use Rattle.ft_script.specs.Expansion.{lines_as_they_are}
use Rattle.ft_script.specs.ReaderInvariant.{lined_ctl}
use Rattle.ft_script.proofs.reader.parts.lines_as_they_are.Given as goal

abbrev pub invariant-loop-line : goal.invariant-loop-line
invariant-loop-line l = (tasks : ℕ) → lines_of tasks l.ctls.items ++ lines_as_they_are (map (lined_ctl tasks) (into_iter_items l.line-iterator)) ≡ lines_as_they_are (map (lined_ctl tasks) l.fn.lines.items)
