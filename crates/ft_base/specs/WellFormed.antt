-- What a script's rules give of its job: each number names something, and each task's returns have their calls.
use Rattle.std.specs.Prelude.{ℕ, ◌≡◌, ◌<◌, List, length, Option, Some, None, IfSome}
use Rattle.std.specs.List.{AllByRecursion as Each}
use Rattle.ft_base.specs.declared.user.Act.{Act}
use Rattle.ft_base.specs.declared.user.Act.TheVariants.{CallIn, IrqIn}
use Rattle.ft_base.specs.declared.task.TaskAct.{TaskAct}
use Rattle.ft_base.specs.Job.{Job, Command, user_of, set_of, commands, funcs}
use Rattle.ft_base.specs.Acts.{Leads}

-- the user that a command names is one of so many
abbrev pub IsNamedIn : ℕ → Command → Type 0
IsNamedIn users c = IfSome (user_of c) (λ u. u < users)

-- the set that a command brings is one of so many functions
abbrev pub IsSetIn : ℕ → Command → Type 0
IsSetIn size c = IfSome (set_of c) (λ set. length set ≡ size)

-- the user that a command names is one of the job's
abbrev pub IsNamed : Job → Command → Type 0
IsNamed job c = IsNamedIn (length job.users) c

-- the function that an act calls is one of so many
abbrev pub IsActIn : ℕ → Option Act → Type 0
IsActIn size None = Unit {0}
IsActIn size (Some (CallIn g)) = g.0 < size
IsActIn size (Some (IrqIn g)) = g.0 < size

-- the function that an act calls is one of the job's
abbrev pub IsActNamed : Job → Option Act → Type 0
IsActNamed job act = IsActIn (funcs job) act

-- acts over `n` open calls: each calls a function of the job, each return has its call, and no call is open at the end
abbrev pub IsScript : Job → ℕ → List TaskAct → Type 0
IsScript job n acts = Leads (funcs job) n acts 0

-- a job whose lines name users and functions that it has
pub record IsWellFormed (job : Job) : Type 0 where
  pub commands : Each (IsNamed job) (commands job)
  pub acts : Each (λ s. IsActNamed job s.act) job.users
  pub tasks : Each (λ t. IsScript job 0 t.acts) job.tasks
