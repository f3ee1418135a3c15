-- What a desk keeps of what a job declares: its users, and how many functions, tasks and trampoline slots there are.
use Rattle.std.specs.Prelude.{◌≡◌, ℕ, false, List, [], None, length, map, replicate}
use Rattle.ft_base.specs.Job.{usual_lines, usual_rings, Spec, Job, funcs, no_func, no_task}
use Rattle.user_specs.specs.declared.spec.Spec.{Spec as UserSpec}
use Rattle.user_specs.specs.Plain.{spec_of}
use Rattle.word_map.specs.declared.shape.Shape.{Shape}

-- a user's declaration as far as a desk needs it: without its name, its pid flag and its act
abbrev pub bare : Spec → Spec
bare s = record s { name = []; pid = false; act = None }

-- the users as far as a desk needs them, and the numbers
pub record Declared : Type 0 where
  pub specs : List Spec
  pub funcs : ℕ
  pub tasks : ℕ
  pub tramps : ℕ

-- the job declares these
pub record IsOf (job : Job) (d : Declared) : Type 0 where
  pub specs : d.specs ≡ map bare job.users
  pub funcs : d.funcs ≡ funcs job
  pub tasks : d.tasks ≡ length job.tasks
  pub tramps : d.tramps ≡ job.tramps

-- a job that declares these, with functions and tasks that have no names. For the desk each job that declares the same is like it
abbrev pub job_of : Declared → Job
job_of d = record {
  version = 1;
  functions = replicate d.funcs no_func;
  users = d.specs;
  frames = 0;
  tramps = d.tramps;
  quanta = [];
  tasks = replicate d.tasks no_task;
  ctls = [];
  schedule = [];
  lines = usual_lines;
  rings = usual_rings;
}

-- what these users and this shape declare
abbrev pub declared_by : List UserSpec → Shape → Declared
declared_by specs shape = record {
  specs = map (λ s. bare (spec_of s)) specs;
  funcs = shape.funcs;
  tasks = shape.tasks;
  tramps = shape.tramps;
}
