use Rattle.word_map.proofs.PlaceLaws.{opening_is}
use Rattle.word_map.proofs.laws.the_list_begins_with_the_opening.Goals as goal

pub returns : goal.returns
returns c = λ shape pids list o. opening_is shape pids list o
