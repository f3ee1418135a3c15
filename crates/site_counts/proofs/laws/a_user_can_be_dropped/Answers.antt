use Rattle.site_counts.proofs.UserLemmas.{HasUser-rows_after}
use Rattle.site_counts.proofs.laws.a_user_can_be_dropped.Goals as goal

pub returns : goal.returns
returns c = HasUser-rows_after
