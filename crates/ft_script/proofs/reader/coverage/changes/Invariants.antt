use Rattle.std.proofs.Common.{◌≡◌, ◌++◌, map, drop}
use Rattle.ft_job.specs.Plans.{row_of}
use Rattle.module_coverage.specs.Reading.{changes_of}
use Rattle.ft_script.proofs.reader.coverage.changes.Given as goal

abbrev pub invariant-loop-row : goal.invariant-loop-row
invariant-loop-row l = l.changes.items ++ changes_of (map row_of (drop l.row-index l.rows)) ≡ changes_of (map row_of l.rows)
