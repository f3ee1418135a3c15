use Rattle.std.proofs.Common.{arith}
use Rattle.site_set.proofs.BitLemmas.{next_bit-none, next_bit-some}
use Rattle.site_set.proofs.members.next_bit.Goals as goal

pub returns-then-rest-eq0-clause-none : goal.returns-then-rest-eq0-clause-none
returns-then-rest-eq0-clause-none c = next_bit-none c.args.word c.args.from c.if-rest-eq0.true

pub returns-else-rest-eq0-clause-some : goal.returns-else-rest-eq0-clause-some
returns-else-rest-eq0-clause-some c = next_bit-some c.args.word c.args.from (omega arith) (omega arith)
