-- What a version of the language allows at most, of what differs by version, and how many of each a job may have.
use Rattle.std.specs.Prelude.{ℕ, ◌≤◌, Bool, nat_le, if◌then◌else◌}
use Rattle.ft_base.specs.declared.limits.TheConstants.{VERSION, LARGEST_SINCE, LOOKS_SINCE, TASKS, FUNCS, USERS, TRAMPS, GUARD_LEVELS, FUNCS_IN_VERSION_1, USERS_IN_VERSION_1, TRAMPS_IN_VERSION_1, GUARD_LEVELS_IN_VERSION_1}
use Rattle.ft_base.specs.declared.limits.Limits.{Limits}
use Rattle.ft_base.specs.Job.{Job}

-- the version of the language is one that there is
abbrev pub IsVersion : ℕ → Type 0
IsVersion version = (1 ≤ version) × (version ≤ VERSION)

-- what the layout of words, bytes and frames has room for, in all versions: the limits of the latest one
abbrev pub largest : Limits
largest = record { funcs = FUNCS; users = USERS; tramps = TRAMPS; levels = GUARD_LEVELS }

-- functions, users, trampoline slots, and the levels of each guard
abbrev pub limits_of : ℕ → Limits
limits_of version =
    if nat_le LARGEST_SINCE version
    then largest
    else record { funcs = FUNCS_IN_VERSION_1; users = USERS_IN_VERSION_1; tramps = TRAMPS_IN_VERSION_1; levels = GUARD_LEVELS_IN_VERSION_1 }

-- CPUs answer requests before the steps of their tasks, and plain users aren't asked whether they are on
abbrev pub has_looks : ℕ → Bool
has_looks version = nat_le LOOKS_SINCE version

-- how many callbacks of a task can be open at a time in one context (ftrace-uses.rst, Protect your callback)
abbrev pub levels : Job → ℕ
levels job = (limits_of job.version).levels

-- So many functions, users, tasks and trampoline slots are within these limits. Of tasks there may be as many in each version
pub record IsFew (limits : Limits) (funcs users tasks tramps : ℕ) : Type 0 where
  pub few_functions : funcs ≤ limits.funcs
  pub few_users : users ≤ limits.users
  pub few_tasks : tasks ≤ TASKS
  pub few_tramps : tramps ≤ limits.tramps
