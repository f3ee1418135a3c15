use Rattle.std.proofs.Common.{◌-◌, ◌≤◌, length}
use Rattle.std.specs.Io.KnownBytes.{Consumes}
use Rattle.ft_io.proofs.source.read_all.Given as goal

abbrev pub invariant-loop-n : goal.invariant-loop-n
invariant-loop-n g l = record {
  taken : Consumes (g.S.Source.remaining l.fn.source) (g.S.Source.remaining l.source) l.bytes.items;
  faults : g.S.Source.faults l.fn.source ≤ g.S.Source.faults l.source;
  short : length l.bytes.items ≤ l.fn.limit;
}

abbrev pub decreases-loop-n : goal.decreases-loop-n
decreases-loop-n g l = l.fn.limit - length l.bytes.items
