use Rattle.std.proofs.Common.{◌≡◌, ◌≤◌, ◌+◌, ◌++◌, length, map}
use Rattle.ft_base.specs.declared.limits.TheConstants.{INPUT_BYTES}
use Rattle.script_text.specs.Lines.{lines_of}
use Rattle.told_facts.specs.Lines.{said_below, said_in, said_of}
use Rattle.told_facts.proofs.lines.read_lines.Given as goal

-- the lines so far were read, and those to come make them all
abbrev pub invariant-loop-rest : goal.invariant-loop-rest
invariant-loop-rest l = record {
  few : l.number + length l.rest ≤ INPUT_BYTES;
  lanes : l.lanes ≤ l.number;
  count : length l.lines.items ≤ l.number;
  read : map said_of l.lines.items ++ said_below l.number l.lanes (lines_of l.rest) ≡ said_in l.script;
}

abbrev pub decreases-loop-rest : goal.decreases-loop-rest
decreases-loop-rest l = length l.rest
