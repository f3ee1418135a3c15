use Rattle.fttell.proofs.telling.TellingTaker.make_room.Goals as goal

pub returns-clause-took : goal.returns-clause-took
returns-clause-took g c = λ job past first took. record { names = took.names; told = c.make_room.ensures.same job past took.told; lines = took.lines }
