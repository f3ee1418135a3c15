-- Whether a script can end: each task goes through its acts, its track, and control through its lines.
use Rattle.std.specs.Prelude.{◌≡◌, ℕ, suc, ◌≤◌, nat_le, Bool, true, false, List, length, take, set, get_or, replicate, slice_get, count_by, Option, Some, None, [], if◌then◌else◌}
use Rattle.ft_base.specs.declared.task.TaskAct.{TaskAct}
use Rattle.ft_base.specs.declared.task.TaskAct.TheVariants.{After}
use Rattle.script_waits.specs.declared.script.Wait.{Wait}
use Rattle.script_waits.specs.declared.script.Wait.TheVariants.{Command, Until}
use Rattle.script_waits.specs.declared.script.LinedAct.{LinedAct}
use Rattle.script_waits.specs.declared.script.ControlLine.{ControlLine}

-- how many acts each task has passed, and how many lines control has passed
pub record Passed : Type 0 where
  pub acts : List ℕ
  pub lines : ℕ

-- a line of control is a command, and no wait
abbrev pub is_command : Wait → Bool
is_command Command = true
is_command (Until t n) = false

-- how many commands are among the first n lines of control
abbrev pub commands_in : List ControlLine → ℕ → ℕ
commands_in lines n = count_by (λ next. is_command next.wait) (take n lines)

-- an act is passed once control has passed this many commands
abbrev pub may_pass_act : ℕ → TaskAct → Bool
may_pass_act commands (After n) = nat_le n commands
may_pass_act commands _ = true

-- a line of control is passed once the tasks have passed this many acts
abbrev pub may_pass_wait : List ℕ → Wait → Bool
may_pass_wait acts Command = true
may_pass_wait acts (Until t n) = nat_le n (get_or acts t.0 0)

-- there is a next act, and it is passed
abbrev pub passes_act : ℕ → Option LinedAct → Bool
passes_act commands None = false
passes_act commands (Some act) = may_pass_act commands act.act

-- there is a next line of control, and it is passed
abbrev pub passes_line : List ℕ → Option ControlLine → Bool
passes_line acts None = false
passes_line acts (Some next) = may_pass_wait acts next.wait

module _ (tracks : List (List LinedAct)) (lines : List ControlLine) where
  -- the act at which a task is
  abbrev pub next_act : Passed → ℕ → Option LinedAct
  next_act p t = slice_get (get_or tracks t []) (get_or p.acts t 0)

  -- the line at which control is
  abbrev pub next_line : Passed → Option ControlLine
  next_line p = slice_get lines p.lines

  -- a task can pass its next act
  abbrev pub task_goes : Passed → ℕ → Bool
  task_goes p t = passes_act (commands_in lines p.lines) (next_act p t)

  -- control can pass its next line
  abbrev pub control_goes : Passed → Bool
  control_goes p = passes_line p.acts (next_line p)

  -- nothing is passed yet
  abbrev pub none_passed : Passed
  none_passed = record { acts = replicate (length tracks) 0; lines = 0 }

  -- what is reached from there by steps, in any order, of tasks and of control that can go
  pub data Reaches : Passed → Type 0 where
    start : Reaches none_passed
    task : (p : Passed) (t : ℕ) → Reaches p → task_goes p t ≡ true → Reaches (record p { acts = set p.acts t (suc (get_or p.acts t 0)) })
    control : (p : Passed) → Reaches p → control_goes p ≡ true → Reaches (record p { lines = suc p.lines })

  -- it is reached, and nobody can go any more
  pub record IsGreatest (p : Passed) : Type 0 where
    pub reached : Reaches p
    pub tasks : (t : ℕ) → task_goes p t ≡ false
    pub control : control_goes p ≡ false

  -- a task or control is at this line of the script
  pub data Waits (p : Passed) (n : ℕ) : Type 0 where
    in_task : (t : ℕ) (act : LinedAct) → next_act p t ≡ Some act → n ≡ act.line → Waits p n
    in_control : (next : ControlLine) → next_line p ≡ Some next → n ≡ next.line → Waits p n

-- the least number with P, if there is one
abbrev pub IsLeast : (ℕ → Type 0) → Option ℕ → Type 0
IsLeast P None = (m : ℕ) → ¬ P m
IsLeast P (Some n) = P n × ((m : ℕ) → P m → n ≤ m)

-- the lower of two numbers, each of which may be missing
abbrev pub lower_of : Option ℕ → Option ℕ → Option ℕ
lower_of None b = b
lower_of (Some x) None = Some x
lower_of (Some x) (Some y) = if nat_le x y then Some x else Some y

-- the lowest line that is left waiting when nobody can go any more, or none if all have come to their ends
pub record IsDeadlock (tracks : List (List LinedAct)) (lines : List ControlLine) (lowest : Option ℕ) : Type 0 where
  pub passed : Passed
  pub greatest : IsGreatest tracks lines passed
  pub least : IsLeast (Waits tracks lines passed) lowest
