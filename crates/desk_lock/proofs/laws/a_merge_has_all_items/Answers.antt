use Rattle.desk_lock.proofs.Totals.{merges_are_whole}
use Rattle.desk_lock.proofs.laws.a_merge_has_all_items.Goals as goal

pub returns : goal.returns
returns c = merges_are_whole
