-- What a machine keeps, and what is said of a machine's world and of a history.
use Rattle.std.specs.Prelude.{ℕ, ◌≡◌, ◌+◌, ◌*◌, ◌≤◌, List, length, reverse}
use Rattle.ft_base.specs.declared.item.Item.{Item}
use Rattle.ft_base.specs.Job.{Job, commands}
use Rattle.ft_hist.specs.Shown.{Shown}
use Rattle.history_laws.specs.Bound.{all_calls}
use Rattle.user_specs.specs.Bound.{call_bound_in}
use Rattle.word_machine.specs.Laws.{Runs}
use Rattle.word_machine.specs.Limits.{IsLimited}
use Rattle.word_machine.specs.Machine.{World}
use Rattle.ft_machine.specs.declared.cpus.TaskLimits.{TaskLimits}
use Rattle.ft_machine.specs.Worlds.{IsFor, Parts, world_of}

-- how many items the job can make
abbrev pub most_items : Job → ℕ
most_items job = 2 * length (commands job) + call_bound_in job * all_calls job.tasks

-- what each task of a job has room for
abbrev pub limits_for : Job → TaskLimits
limits_for job = record { frames = job.frames; version = job.version }

-- the items of a history, the latest first
abbrev pub past_in : Shown → List Item
past_in h = reverse h.items

-- a history has these items of a job, the latest first, and room for all that the job can make
pub record HasPast (job : Job) (past : List Item) (h : Shown) : Type 0 where
  pub items : past_in h ≡ past
  pub room : most_items job ≤ length h.items + h.spare

-- the words and the actors are those of the word machine in this state, which runs
pub record IsAt (job : Job) (s : World) (w : Parts) : Type 0 where
  pub limited : IsLimited job
  pub is_for : IsFor job s.past w
  pub is : world_of job s.past w ≡ s
  pub runs : Runs job s

-- a machine of a job: the words and the actors are as they are after the items of its history, which has room for all
pub record IsMachineOf (job : Job) (w : Parts) (h : Shown) : Type 0 where
  pub limited : IsLimited job
  pub is_for : IsFor job (past_in h) w
  pub runs : Runs job (world_of job (past_in h) w)
  pub room : most_items job ≤ length h.items + h.spare

-- a machine of some job
pub record IsMachine (w : Parts) (h : Shown) : Type 0 where
  pub job : Job
  pub of' : IsMachineOf job w h
