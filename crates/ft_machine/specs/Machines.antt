-- Of which job a machine is.
use Rattle.ft_base.specs.Job.{Job}
use Rattle.word_map.specs.declared.shape.Shape.{Shape}
use Rattle.word_machine.specs.Machine.{World}
use Rattle.ft_machine.specs.Worlds.{world_of}
use Rattle.ft_machine.specs.declared.machine.Machine.{Machine}
use Rattle.ft_machine.specs.MachineStates.{IsMachineOf, past_in}

-- the state of the word machine that it stands for
abbrev pub state_of : Job → Machine → World
state_of job m = world_of job (past_in m.history) m.world

-- it is the machine of this job, in a state that keeps the rule of the word machine
abbrev pub IsOf : Job → Machine → Type 0
IsOf job m = IsMachineOf job m.world m.history

-- the shape of its words
abbrev pub shape_in : Machine → Shape
shape_in m = m.world.shape
