-- Of which jobs and items the log tells everything: names and pids that differ, and numbers that the job has.
use Rattle.std.specs.Prelude.{ℕ, ◌≡◌, ◌<◌, ◌^◌, true, List, length, Contains, Option, Some, None}
use Rattle.std.specs.List.{AllByRecursion as Each}
use Rattle.ft_base.specs.Name.{is_name_text}
use Rattle.ft_base.specs.declared.number.CallNo.{CallNo}
use Rattle.ft_base.specs.declared.item.Answer.{Answer}
use Rattle.ft_base.specs.declared.item.Answer.TheVariants.{Busy}
use Rattle.ft_base.specs.declared.item.Ran.{Ran}
use Rattle.ft_base.specs.declared.item.Ran.TheVariants.{Own}
use Rattle.ft_base.specs.declared.item.Item.{Item}
use Rattle.ft_base.specs.declared.item.Item.TheVariants.{Begin, Return, Enter, Back, BackEnd, Refuse, Miss, Body, Leave, Exit, ExitEnd, Ret}
use Rattle.ft_base.specs.Job.{Job, funcs}
use Rattle.trace_views.specs.Words.{function_word, user_word, pid_at, lane_at}

-- names are names, and those of functions differ, those of users, and the pids; lanes have numbers of 64 bits
pub record IsNamedApart (job : Job) : Type 0 where
  pub functions : (f : ℕ) → f < funcs job → is_name_text (function_word job f) ≡ true
  pub users : (u : ℕ) → u < length job.users → is_name_text (user_word job u) ≡ true
  pub pids : (t : ℕ) → pid_at job t < 2 ^ 64
  pub lanes : Each (λ lane. lane < 2 ^ 64) job.lines.lanes
  pub apart_functions : (f g : ℕ) → f < funcs job → g < funcs job → function_word job f ≡ function_word job g → f ≡ g
  pub apart_users : (u v : ℕ) → u < length job.users → v < length job.users → user_word job u ≡ user_word job v → u ≡ v
  pub apart_pids : (s t : ℕ) → s < length job.tasks → t < length job.tasks → pid_at job s ≡ pid_at job t → s ≡ t

-- two jobs have the same functions, users and tasks
pub record AreNamedAlike (job other : Job) : Type 0 where
  pub functions : job.functions ≡ other.functions
  pub users : job.users ≡ other.users
  pub tasks : job.tasks ≡ other.tasks

-- the commands that begin among these items have the same lanes in both
abbrev pub AreInLanesAlike : Job → Job → List Item → Type 0
AreInLanesAlike job other items = (k : ℕ) → Contains items (Begin k) → lane_at job k ≡ lane_at other k

-- a call of one of the job's tasks
abbrev pub IsCallOf : Job → CallNo → Type 0
IsCallOf job call = (call.task.0 < length job.tasks) × (call.n < 2 ^ 64)

-- a caller, if there is one
abbrev pub IsCallerOf : Job → Option CallNo → Type 0
IsCallerOf job None = Unit {0}
IsCallerOf job (Some call) = IsCallOf job call

-- what was fetched names one of the job's users
abbrev pub IsRanOf : Job → Ran → Type 0
IsRanOf job (Own u) = u.0 < length job.users
IsRanOf job _ = Unit {0}

-- an answer names a function and a user of the job
abbrev pub IsAnswerOf : Job → Answer → Type 0
IsAnswerOf job (Busy f u) = (f.0 < funcs job) × (u.0 < length job.users)
IsAnswerOf job _ = Unit {0}

-- an item whose numbers are the job's
abbrev pub IsItemOf : Job → Item → Type 0
IsItemOf job (Begin k) = k < 2 ^ 64
IsItemOf job (Return k answer) = (k < 2 ^ 64) × IsAnswerOf job answer
IsItemOf job (Enter call ctx f caller) = IsCallOf job call × (f.0 < funcs job) × IsCallerOf job caller
IsItemOf job (Back call u) = IsCallOf job call × (u.0 < length job.users)
IsItemOf job (BackEnd call u) = IsCallOf job call × (u.0 < length job.users)
IsItemOf job (Refuse call u reason) = IsCallOf job call × (u.0 < length job.users)
IsItemOf job (Miss call u) = IsCallOf job call × (u.0 < length job.users)
IsItemOf job (Body call g ran) = IsCallOf job call × (g.0 < funcs job) × IsRanOf job ran
IsItemOf job (Leave call) = IsCallOf job call
IsItemOf job (Exit call u entry) = IsCallOf job call × (u.0 < length job.users) × (entry < 2 ^ 64)
IsItemOf job (ExitEnd call u) = IsCallOf job call × (u.0 < length job.users)
IsItemOf job (Ret call to) = IsCallOf job call × IsCallerOf job to
