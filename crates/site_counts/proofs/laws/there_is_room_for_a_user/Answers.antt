use Rattle.site_counts.proofs.UserLemmas.{HasRoom-rows_after}
use Rattle.site_counts.proofs.laws.there_is_room_for_a_user.Goals as goal

pub returns : goal.returns
returns c = HasRoom-rows_after
