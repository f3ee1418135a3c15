-- The fields of the machine, and what contracts see of them.
use Rattle.ft_machine.specs.declared.world.World.TheInside.{Inside}
use Rattle.ft_machine.specs.Worlds.{IsRunning, Parts}

-- what contracts see
abbrev pub parts_of : Inside → Parts
parts_of d = record { shape = d.map; words = d.table; control = d.control; cpus = d.cpus.items }

-- it is the machine of some job
pub record WorldInvariant (d : Inside) : Type 0 where
  pub running : IsRunning (parts_of d)
