use Rattle.hash_pages.proofs.FoundLaws.{finds}
use Rattle.hash_pages.proofs.laws.a_read_goes_by_state_and_sets.Goals as goal

pub returns : goal.returns
returns c = λ shape u f reg copy registered enabled pair first second third below small is there still.
    finds shape u f reg copy pair first second third below small there still registered enabled is
