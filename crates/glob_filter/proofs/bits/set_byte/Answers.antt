use Rattle.std.proofs.Common.{refl, arith}
use Rattle.glob_filter.proofs.WordLemmas.{has_byte-set}
use Rattle.glob_filter.proofs.bits.set_byte.Goals as goal

pub returns-clause-bytes : goal.returns-clause-bytes
returns-clause-bytes c = has_byte-set c.args.table.now c.args.place c.args.byte _ (omega arith) c.requires refl
