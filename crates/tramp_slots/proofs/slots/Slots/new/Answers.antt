use Rattle.std.proofs.lemmas.List.{take-replicate}
use Rattle.ft_base.specs.declared.limits.TheConstants.{TRAMPS}
use Rattle.tramp_slots.proofs.slots.Slots.new.Goals as goal

pub returns-clause-free : goal.returns-clause-free
returns-clause-free c = take-replicate _ TRAMPS _ c.requires
