use Rattle.word_map.proofs.PlaceLaws.{is_map}
use Rattle.word_map.proofs.laws.places_differ.Goals as goal

pub returns : goal.returns
returns c = λ shape. is_map shape
