use Rattle.ipmodify.proofs.DeskLemmas.{claim-is}
use Rattle.ipmodify.proofs.laws.claims_as_on_a_desk.Goals as goal

pub returns : goal.returns
returns c job desk u filter notrace on holders m a = claim-is job desk u filter notrace on holders m a
