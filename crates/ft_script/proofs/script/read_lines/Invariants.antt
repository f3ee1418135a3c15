use Rattle.std.proofs.Common.{◌≡◌, ◌≤◌, ◌+◌, length}
use Rattle.ft_base.specs.declared.limits.TheConstants.{INPUT_BYTES}
use Rattle.script_text.specs.Lines.{lines_of}
use Rattle.ft_script.specs.Above.{none_above}
use Rattle.ft_script.specs.ReaderInvariant.{above_of, ReaderInvariant}
use Rattle.ft_script.specs.Script.{refusal_below, declared_after, declared_in}
use Rattle.ft_script.proofs.Lines.{HoldsAbove}
use Rattle.ft_script.proofs.script.read_lines.Given as goal

abbrev pub invariant-loop-rest : goal.invariant-loop-rest
invariant-loop-rest l = record {
  few : l.reader.lines + length l.rest ≤ INPUT_BYTES;
  holds : HoldsAbove (above_of l.reader) (lines_of l.rest);
  kept : ReaderInvariant l.reader;
  refused : refusal_below (above_of l.reader) (lines_of l.rest) ≡ refusal_below none_above (lines_of l.text);
  declared : declared_after (above_of l.reader) (lines_of l.rest) ≡ declared_in l.text;
}

abbrev pub decreases-loop-rest : goal.decreases-loop-rest
decreases-loop-rest l = length l.rest
