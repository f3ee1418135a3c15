-- The job of a script, and what a reader knows of its calls, its control and its modules.
use Rattle.std.specs.Prelude.{◌≡◌, ℕ, List, [], ◌∷◌, map, get_or, slice_get, Some, if◌then◌else◌}
use Rattle.ft_base.specs.declared.number.FuncNo.{FuncNo}
use Rattle.ft_base.specs.declared.task.TaskAct.TheVariants.{Call}
use Rattle.ft_base.specs.Desk.{is_accepted}
use Rattle.ft_base.specs.Job.{Job, Ctl, Run, Until, ModuleRow}
use Rattle.script_waits.specs.declared.script.LinedAct.{LinedAct}
use Rattle.script_waits.specs.declared.script.ControlLine.{ControlLine}
use Rattle.script_waits.specs.declared.script.Wait.{Wait}
use Rattle.script_waits.specs.declared.script.Wait.TheVariants.{Command as ACommand, Until as AnUntil}
use Rattle.func_table.specs.Modules.{module_of}
use Rattle.module_coverage.specs.declared.change.Change.{Change}
use Rattle.module_coverage.specs.Covered.{IsCovered}
use Rattle.module_coverage.specs.Plan.{ModulePlan, owner_in}
use Rattle.module_coverage.specs.Spans.{acts_in, waits_in}

-- what a line of control is for those that wait
abbrev pub wait_of : Ctl → Wait
wait_of (Run command) = ACommand
wait_of (Until t n) = AnUntil (record { 0 = t }) n

-- what these lines change, each with its last command; a line that isn't accepted changes nothing
abbrev pub changes_of : List ModuleRow → List Change
changes_of [] = []
changes_of (row ∷ rows) = if is_accepted row.answer then record { «module» = row.owner; load = row.load; at = row.last } ∷ changes_of rows else changes_of rows

-- the job has these acts, these lines of control and these modules
pub record IsKnown (job : Job) (tracks : List (List LinedAct)) (control : List ControlLine) (plan : ModulePlan) : Type 0 where
  pub acts : map (λ task. task.acts) job.tasks ≡ map acts_in tracks
  pub waits : map wait_of job.ctls ≡ waits_in control
  pub owners : (f : ℕ) → owner_in plan.owners f ≡ module_of job.functions f
  pub absent : plan.absent ≡ job.lines.absent
  pub changes : plan.changes ≡ changes_of job.lines.modules

-- line n of a script, which has these tasks, is that of a call of the job that isn't covered
pub record IsUncoveredCall (job : Job) (tracks : List (List LinedAct)) (n : ℕ) : Type 0 where
  pub task : ℕ
  pub place : ℕ
  pub func : FuncNo
  pub owner : ℕ
  pub line : slice_get (get_or tracks task []) place ≡ Some (record { act = Call func; line = n })
  pub lies : module_of job.functions func.0 ≡ Some owner
  pub uncovered : ¬ IsCovered job task place owner
