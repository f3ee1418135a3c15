use Rattle.tramp_slots.proofs.HolderLemmas.{held-within, take-changed}
use Rattle.tramp_slots.proofs.slots.Slots.give.Goals as goal

pub returns-clause-given : goal.returns-clause-given
returns-clause-given c = take-changed _ _ c.self.inside.holders _ _ c.self.view_is (held-within _ _ c.requires)
