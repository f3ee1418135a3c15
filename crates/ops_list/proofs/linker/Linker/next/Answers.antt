use Rattle.std.proofs.Common.{refl}
use Rattle.ops_list.proofs.linker.Linker.next.Goals as goal

pub returns-in-Unlinking : goal.returns-in-Unlinking
returns-in-Unlinking c = rw (← c.self.view_is, c.in-Unlinking.is, c.namer_place.ensures, c.name_of-in-Unlinking.ensures) refl
