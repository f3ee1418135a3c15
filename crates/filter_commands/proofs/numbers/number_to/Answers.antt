use Rattle.std.proofs.Common.{arith, refl}
use Rattle.filter_commands.proofs.TextLemmas.{is_outside-large}
use Rattle.filter_commands.proofs.numbers.number_to.Goals as goal

pub returns-in-Err : goal.returns-in-Err
returns-in-Err c = rw (is_outside-large c.args.most c.args.digits.now c.parse.result _ (omega arith) c.requires c.parse.ensures.value.0 c.in-Err.is) refl
