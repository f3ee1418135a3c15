use Rattle.glob_filter.proofs.Fitting.{is_fit-Fits}
use Rattle.glob_filter.proofs.laws.test_is_the_relation.Goals as goal

pub returns : goal.returns
returns c = is_fit-Fits
