-- How many there are of each thing that has words.
use Rattle.std.specs.Prelude.{◌≤◌, length}
use Rattle.ft_base.specs.declared.limits.TheConstants.{CPUS}
use Rattle.ft_base.specs.Job.{Job, funcs}
use Rattle.ft_base.specs.Versions.{largest, IsFew}
use Rattle.word_map.specs.declared.shape.Shape.{Shape}

-- the layout of the words has room for the shape
pub record IsShape (shape : Shape) : Type 0 where
  pub counts : IsFew largest shape.funcs shape.users shape.tasks shape.tramps
  pub few_cpus : shape.cpus ≤ CPUS

-- the shape of a job
abbrev pub shape_of : Job → Shape
shape_of job = record {
  funcs = funcs job;
  users = length job.users;
  cpus = length job.quanta;
  tasks = length job.tasks;
  tramps = job.tramps;
}
