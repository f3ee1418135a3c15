-- The job that the program makes.
use Rattle.std.specs.Prelude.{false, List, [], ◌∷◌, None, codes}
use Rattle.ft_base.specs.declared.user.Kind.TheVariants.{Function}
use Rattle.ft_base.specs.declared.task.TaskAct.TheVariants.{Call, Ret, After}
use Rattle.ft_base.specs.Job.{usual_lines, usual_rings, Func, Spec, Task, Ctl, Run, Until, Register, Unregister, Job}

-- two functions: 0 and 1
abbrev pub the_functions : List Func
the_functions = record { name = codes "vfs_open"; owner = None } ∷ record { name = codes "vfs_read"; owner = None } ∷ []

-- a user that traces all functions
abbrev pub the_user : Spec
the_user = record { name = codes "tracer"; kind = Function; regs = false; ipmodify = None; pid = false; act = None }

-- a task on CPU 0, which waits until one command has returned, and then calls function 0, which calls function 1
abbrev pub the_task : Task
the_task = record { pid = 10; cpu = 0; acts = After 1 ∷ Call (record { 0 = 0 }) ∷ Call (record { 0 = 1 }) ∷ Ret ∷ Ret ∷ [] }

-- control registers the user, waits until the task has finished its five acts, and unregisters the user
abbrev pub the_lines : List Ctl
the_lines = Run (Register 0) ∷ Until 0 5 ∷ Run (Unregister 0) ∷ []

-- the job, which has no schedule
abbrev pub the_job : Job
the_job = record {
  version = 1;
  functions = the_functions;
  users = the_user ∷ [];
  frames = 0;
  tramps = 1;
  quanta = 100 ∷ [];
  tasks = the_task ∷ [];
  ctls = the_lines;
  schedule = [];
  lines = usual_lines;
  rings = usual_rings;
}
