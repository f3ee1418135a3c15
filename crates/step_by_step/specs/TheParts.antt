-- What the program declares of the job.
use Rattle.std.specs.Prelude.{[], ◌∷◌}
use Rattle.ft_base.specs.Job.{usual_lines, usual_rings}
use Rattle.ft_desk.specs.declared.command.Ctl.TheVariants.{Run, Until}
use Rattle.ft_desk.specs.declared.command.Command.TheVariants.{Register, Unregister}
use Rattle.ft_job.specs.Parts.{Parts}
use Rattle.step_by_step.specs.TheJob.{the_functions, the_user, the_task}

-- the parts that the program gives
abbrev pub the_parts : Parts
the_parts = record {
  version = 1;
  functions = the_functions;
  users = the_user ∷ [];
  frames = 0;
  tramps = 1;
  cpus = record { quantum = 100; tasks = record { task = 0; pid = the_task.pid; acts = the_task.acts } ∷ [] } ∷ [];
  ctls = Run (Register (record { 0 = 0 })) ∷ Until (record { 0 = 0 }) 5 ∷ Run (Unregister (record { 0 = 0 })) ∷ [];
  schedule = [];
  lines = usual_lines;
  rings = usual_rings;
}
