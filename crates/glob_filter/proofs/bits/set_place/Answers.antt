use Rattle.std.proofs.Common.{refl}
use Rattle.glob_filter.proofs.WordLemmas.{has_place-set}
use Rattle.glob_filter.proofs.bits.set_place.Goals as goal

pub returns-clause-places : goal.returns-clause-places
returns-clause-places c = has_place-set c.args.words.now c.args.place _ c.requires refl
