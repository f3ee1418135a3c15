-- The lines of the calls that aren't covered.
use Rattle.std.specs.Prelude.{◌≡◌, ℕ, ◌≤◌, false, List, [], get_or, Some}
use Rattle.script_waits.specs.declared.script.LinedAct.{LinedAct}
use Rattle.script_waits.specs.declared.script.ControlLine.{ControlLine}
use Rattle.module_coverage.specs.declared.span.Span.{Span}
use Rattle.module_coverage.specs.Plan.{ModulePlan, owner_in, is_loaded_in}
use Rattle.module_coverage.specs.Spans.{IsSpan}

-- the call's function lies in a module that isn't loaded after a number of commands in the call's span
pub record IsUncovered (plan : ModulePlan) (s : Span) : Type 0 where
  pub owner : ℕ
  pub lies : owner_in plan.owners s.func.0 ≡ Some owner
  pub commands : ℕ
  pub begun : s.from ≤ commands
  pub returned : commands ≤ s.to
  pub away : is_loaded_in plan owner commands ≡ false

-- line n of a script, which has these tasks and these lines of control, is that of a call that isn't covered
pub record IsUncoveredLine (tracks : List (List LinedAct)) (control : List ControlLine) (plan : ModulePlan) (n : ℕ) : Type 0 where
  pub task : ℕ
  pub span : Span
  pub is_call : IsSpan control task (get_or tracks task []) span
  pub uncovered : IsUncovered plan span
  pub line : n ≡ span.line
