-- The tasks of a CPU: which of them runs, and which is to tell.
use Rattle.std.specs.Prelude.{ℕ, zero, suc, ◌+◌, ◌≡◌, Bool, true, not, List, [], ◌∷◌, drop, length, position, Option, Some, None, unwrap_or}
use Rattle.std.specs.Option.{option_map}
use Rattle.std.specs.List.{list_any}
use Rattle.user_specs.specs.declared.plan.TaskPlan.{TaskPlan}
use Rattle.grace_core.specs.Views.{has_told, told_word}
use Rattle.task_core.specs.declared.task.Task.{Task}
use Rattle.task_core.specs.Starts.{HasRoomFor, is_left, task_at_start, view_of}

-- a task of a plan before its first act, with room for its calls
pub record IsStarted (frames levels : ℕ) (plan : TaskPlan) (t : Task) : Type 0 where
  pub start : t ≡ task_at_start plan.task plan.acts.items t.opens.limit frames levels
  pub room : HasRoomFor t.opens.limit levels plan.acts.items

-- the same of all tasks
abbrev pub AreStarted : (frames levels : ℕ) → List TaskPlan → List Task → Type 0
AreStarted frames levels [] [] = Unit {0}
AreStarted frames levels (p ∷ ps) (t ∷ ts) = IsStarted frames levels p t × AreStarted frames levels ps ts
AreStarted frames levels _ _ = ⊥

-- ## which task runs

-- a task has an act left
abbrev pub any_left : List Task → Bool
any_left ts = list_any is_left ts

-- the first task from an index on that has an act left
abbrev pub left_from : List Task → ℕ → Option ℕ
left_from ts from = option_map (λ k. from + k) (position is_left (drop from ts))

-- the first of all, or the number of tasks if none has
abbrev pub first_left : List Task → ℕ
first_left ts = unwrap_or (left_from ts 0) (length ts)

-- the next after this one in the cyclic order, or this one if none has
abbrev pub next_by : Option ℕ → Option ℕ → ℕ → ℕ
next_by (Some next) first present = next
next_by None first present = unwrap_or first present

-- the next task with an act left after this one, in the cyclic order, or this one if none has
abbrev pub next_left : List Task → ℕ → ℕ
next_left ts present = next_by (left_from ts (suc present)) (left_from ts 0) present

-- ## which task is to tell

-- its word is to change, once this request was loaded
abbrev pub is_untold : ℕ → Task → Bool
is_untold r t = not (has_told r (view_of t))

-- the first such task
abbrev pub first_untold : ℕ → List Task → Option ℕ
first_untold r ts = position (is_untold r) ts

-- the first from an index on
abbrev pub untold_from : ℕ → List Task → ℕ → Option ℕ
untold_from r ts from = option_map (λ k. from + k) (position (is_untold r) (drop from ts))

-- the tasks before an index have told
abbrev pub HaveTold : ℕ → ℕ → List Task → Type 0
HaveTold r zero ts = Unit {0}
HaveTold r (suc n) [] = Unit {0}
HaveTold r (suc n) (t ∷ ts) = (has_told r (view_of t) ≡ true) × HaveTold r n ts

-- the tasks from an index on have told
abbrev pub RestTold : ℕ → ℕ → List Task → Type 0
RestTold r n ts = first_untold r (drop n ts) ≡ None

-- a task that tells: its word is stored
abbrev pub told_task : ℕ → Task → Task
told_task r t = record t { word = told_word r (view_of t) }
