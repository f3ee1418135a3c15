use Rattle.module_coverage.proofs.Known.{line-is, call-is, none-left, all-covered}
use Rattle.module_coverage.proofs.laws.uncovered_lines_are_those_of_the_job.Goals as goal

pub returns : goal.returns
returns c = record {
  line = λ job tracks control plan known n. (call-is job tracks control plan known n, line-is job tracks control plan known n);
  none = λ job tracks control plan known. (none-left job tracks control plan known, all-covered job tracks control plan known);
}
