-- Jobs within the limits of scripts.
use Rattle.std.specs.Prelude.{◌+◌, ◌*◌, ◌<◌, ◌≤◌, ℕ, [], length, sum_by, IfSome}
use Rattle.std.specs.List.{AllByRecursion as Each}
use Rattle.ft_base.specs.declared.limits.TheConstants.{COMMANDS, UNTILS, FRAMES, GRAPH_DEPTH, ACTS, ITEMS}
use Rattle.ft_base.specs.Job.{Job, Command, depth_of, Ctl, Run, Until, commands, funcs}
use Rattle.ft_base.specs.Versions.{IsVersion, limits_of, IsFew}
use Rattle.ft_base.specs.Acts.{AreRaised}
use Rattle.ft_base.specs.WellFormed.{IsWellFormed}
use Rattle.user_specs.specs.Bound.{call_bound_in}
use Rattle.history_laws.specs.Bound.{all_calls}

-- the task that control waits for is one of this many
abbrev pub WaitsFor : ℕ → Ctl → Type 0
WaitsFor tasks (Until t n) = t < tasks
WaitsFor tasks (Run c) = Unit {0}

-- a graph depth that a command may set
abbrev pub IsLevel : Command → Type 0
IsLevel c = IfSome (depth_of c) (λ n. n ≤ GRAPH_DEPTH)

-- What the limits of scripts give of a job: it is of a version that there is, and well formed, its tasks are on its CPUs, its waits
-- name its tasks, each interrupt of a task comes above its present context and goes after it came, and it has no more lines of
-- control, users, tasks, functions, frames, trampolines and acts, and no greater depths, than a script may have; nor more items that
-- its calls can make
pub record IsLimited (job : Job) : Type 0 where
  pub version : IsVersion job.version
  pub job' : IsWellFormed job
  pub placed : Each (λ t. t.cpu < length job.quanta) job.tasks
  pub waits : Each (WaitsFor (length job.tasks)) job.ctls
  pub raised : Each (λ t. AreRaised [] t.acts) job.tasks
  pub ctls : length job.ctls ≤ COMMANDS + UNTILS
  pub counts : IsFew (limits_of job.version) (funcs job) (length job.users) (length job.tasks) job.tramps
  pub frames : job.frames ≤ FRAMES
  pub levels : Each IsLevel (commands job)
  pub acts : sum_by (λ t. length t.acts) job.tasks ≤ ACTS
  pub items : call_bound_in job * all_calls job.tasks ≤ ITEMS
