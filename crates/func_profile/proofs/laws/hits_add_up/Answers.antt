use Rattle.func_profile.proofs.TotalLemmas.{hits-add-up}
use Rattle.func_profile.proofs.laws.hits_add_up.Goals as goal

pub returns : goal.returns
returns c = λ items u n rows. hits-add-up items u n rows
