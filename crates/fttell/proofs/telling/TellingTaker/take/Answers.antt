use Rattle.std.proofs.Common.{arith}
use Rattle.trace_print.proofs.KeptLaws.{past-room}
use Rattle.fttell.proofs.telling.TellingTaker.take.Goals as goal

pub put-requires-clause-counted : goal.put-requires-clause-counted
put-requires-clause-counted g c =
    let r = c.requires.next in
    let few = past-room r.0 r.3 r.1 c.args.item r.5 in
    let is = r.4.told.place' in
    omega (arith, few, is)

pub returns : goal.returns
returns g c = λ job past first limited took legal. c.put.ensures job past first took
