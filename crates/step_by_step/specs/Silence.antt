-- What the job's history never has.
use Rattle.std.specs.Prelude.{◌≢◌, List, ◌∷◌, ◌++◌, reverse}
use Rattle.ft_base.specs.declared.number.CallNo.{CallNo}
use Rattle.ft_base.specs.declared.item.Answer.TheVariants.{Accepted}
use Rattle.ft_base.specs.declared.item.Item.{Item}
use Rattle.ft_base.specs.declared.item.Item.TheVariants.{Return, Back}
use Rattle.ft_machine.specs.declared.machine.Machine.{Machine}
use Rattle.ft_machine.specs.Machines.{state_of}
use Rattle.step_by_step.specs.TheJob.{the_job}

-- the history of a machine of the job
abbrev pub items_of : Machine → List Item
items_of m = reverse (state_of the_job m).past

-- after command 2, the unregistration, has returned, the user isn't called back
abbrev pub IsSilent : List Item → Type 0
IsSilent items = (before between after : List Item) (call : CallNo) → items ≢ before ++ Return 2 Accepted ∷ (between ++ Back call (record { 0 = 0 }) ∷ after)
