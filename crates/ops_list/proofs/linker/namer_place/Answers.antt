use Rattle.ops_list.proofs.linker.namer_place.Goals as goal

pub returns-in-Some : goal.returns-in-Some
returns-in-Some c = rw c.in-Some.is c.link.ensures
