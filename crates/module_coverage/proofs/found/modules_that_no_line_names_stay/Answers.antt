use Rattle.module_coverage.proofs.Still.{always}
use Rattle.module_coverage.proofs.found.modules_that_no_line_names_stay.Goals as goal

pub returns : goal.returns
returns c = always
