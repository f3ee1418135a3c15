use Rattle.tramp_slots.proofs.HolderLemmas.{take-changed}
use Rattle.tramp_slots.proofs.slots.Slots.take.Goals as goal

pub returns-clause-taken : goal.returns-clause-taken
returns-clause-taken c = take-changed _ _ c.self.inside.holders _ _ c.self.view_is c.in_ok-slot.ensures.least.within
