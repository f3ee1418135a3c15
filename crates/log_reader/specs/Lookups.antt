-- How the numbers of a job are found: those of its functions and users by name, and those of its tasks by pid.
use Rattle.std.specs.Prelude.{ℕ, ◌≡◌, ◌≢◌, ◌<◌, ◌^◌, length, Option}
use Rattle.std.specs.Option.{MatchOption}
use Rattle.ft_base.specs.declared.number.FuncNo.{FuncNo}
use Rattle.ft_base.specs.declared.number.UserNo.{UserNo}
use Rattle.ft_base.specs.declared.number.TaskNo.{TaskNo}
use Rattle.ft_base.specs.Job.{Job, funcs}
use Rattle.trace_views.specs.Words.{Word, function_word, user_word, pid_at}

-- what is found
pub record Lookups : Type 0 where
  pub function : Word → Option FuncNo
  pub user : Word → Option UserNo
  pub task : ℕ → Option TaskNo

-- of the numbers below a count, one with this name was found; or none has the name
abbrev pub IsFound : {A B : Type 0} → (B → ℕ) → ℕ → (ℕ → A) → A → Option B → Type 0
IsFound number count name sought found = MatchOption found ((k : ℕ) → k < count → name k ≢ sought) (λ x. (number x < count) × (name (number x) ≡ sought))

-- the job's functions are found by name
abbrev pub AreFunctions : Job → (Word → Option FuncNo) → Type 0
AreFunctions job find = (w : Word) → IsFound (λ (f : FuncNo). f.0) (funcs job) (function_word job) w (find w)

-- and its users
abbrev pub AreUsers : Job → (Word → Option UserNo) → Type 0
AreUsers job find = (w : Word) → IsFound (λ (u : UserNo). u.0) (length job.users) (user_word job) w (find w)

-- and its tasks by pid
abbrev pub AreTasks : Job → (ℕ → Option TaskNo) → Type 0
AreTasks job find = (pid : ℕ) → IsFound (λ (t : TaskNo). t.0) (length job.tasks) (pid_at job) pid (find pid)

-- the pids of the job's tasks have 32 bits
abbrev pub ArePidsShort : Job → Type 0
ArePidsShort job = (t : ℕ) → t < length job.tasks → pid_at job t < 2 ^ 32

-- the numbers of a job are found
pub record AreLookupsOf (job : Job) (find : Lookups) : Type 0 where
  pub function : AreFunctions job find.function
  pub user : AreUsers job find.user
  pub task : AreTasks job find.task
  pub pids : ArePidsShort job
