-- Between which numbers of commands a call may be under way, by the lines of a script.
use Rattle.std.specs.Prelude.{◌≡◌, ℕ, suc, ◌&&◌, ◌==◌, nat_le, List, [], ◌∷◌, map, take, drop, slice_get, Some, if◌then◌else◌}
use Rattle.ft_base.specs.declared.task.TaskAct.{TaskAct}
use Rattle.ft_base.specs.declared.task.TaskAct.TheVariants.{Call}
use Rattle.script_waits.specs.declared.script.LinedAct.{LinedAct}
use Rattle.script_waits.specs.declared.script.ControlLine.{ControlLine}
use Rattle.script_waits.specs.declared.script.Wait.{Wait}
use Rattle.script_waits.specs.declared.script.Wait.TheVariants.{Command, Until}
use Rattle.module_coverage.specs.declared.span.Span.{Span}
use Rattle.module_coverage.specs.Covered.{last_after, return_number}

-- a task's acts without their lines
abbrev pub acts_in : List LinedAct → List TaskAct
acts_in acts = map (λ a. a.act) acts

-- control's lines without their numbers
abbrev pub waits_in : List ControlLine → List Wait
waits_in control = map (λ c. c.wait) control

-- how many commands are above control's first wait for so many acts of the task, or in all if there is no such wait; `k` commands
-- are above these lines
abbrev pub commands_to : ℕ → ℕ → ℕ → List Wait → ℕ
commands_to t n k [] = k
commands_to t n k (Command ∷ waits) = commands_to t n (suc k) waits
commands_to t n k (Until u m ∷ waits) = if (u.0 == t) && nat_le n m then k else commands_to t n k waits

-- a call of task t, which has these acts, and between which numbers of commands it may be under way
pub record IsSpan (control : List ControlLine) (t : ℕ) (acts : List LinedAct) (s : Span) : Type 0 where
  pub place : ℕ
  pub call : slice_get acts place ≡ Some (record { act = Call s.func; line = s.line })
  pub from : s.from ≡ last_after 0 (take place (acts_in acts))
  pub to : s.to ≡ commands_to t (return_number (suc place) 0 (drop (suc place) (acts_in acts))) 0 (waits_in control)
