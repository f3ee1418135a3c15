use Rattle.site_counts.proofs.UserLemmas.{rows-sums}
use Rattle.site_counts.proofs.laws.rows_are_sums.Goals as goal

pub returns : goal.returns
returns c = rows-sums
