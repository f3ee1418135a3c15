use Rattle.func_profile.proofs.LegalLemmas.{legal-rows}
use Rattle.func_profile.proofs.laws.legal_histories_have_rows.Goals as goal

pub returns : goal.returns
returns c = λ job items n is legal le. legal-rows job is items n legal le
