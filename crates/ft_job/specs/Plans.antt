-- What the machine asks of a job's lanes, modules, ring and triggers. It reads none of them itself.
use Rattle.std.specs.Prelude.{◌≡◌, ◌≤◌, ◌<◌, ◌⊎◌, ℕ, List, [], length, IfSome}
use Rattle.std.specs.List.{AllByRecursion as Each}
use Rattle.ft_base.specs.declared.limits.TheConstants.{LANES, RING, TRIGGERS, TRIGGER_LIMIT}
use Rattle.ft_base.specs.Job.{Func, Ctl, Run, Until, ModuleRow, Trigger as PlainTrigger, Job, funcs, commands}
use Rattle.func_table.specs.Modules.{modules_in}
use Rattle.ft_job.specs.declared.parts.ModRow.{ModRow}

-- a line that loads or unloads a module, as plain data
abbrev pub row_of : ModRow → ModuleRow
row_of row = record { load = row.load; owner = row.module; answer = row.answer; first = row.first; last = row.last }

-- a number of a module of these functions
abbrev pub IsModule : List Func → ℕ → Type 0
IsModule functions m = m < length (modules_in functions)

-- ## where control's lines come from

-- the line is a command
abbrev pub IsCommand : Ctl → Type 0
IsCommand (Run c) = Unit {0}
IsCommand (Until t n) = ⊥

-- control has no waits, and each command has a lane
pub record HasLanes (job : Job) : Type 0 where
  pub commands' : Each IsCommand job.ctls
  pub each : length job.lines.lanes ≡ length (commands job)
  pub numbers : Each (λ lane. lane < LANES) job.lines.lanes

-- there are no lanes, or each command has one; and each module that is named is one of the functions'
pub record AreLinesPlanned (job : Job) : Type 0 where
  pub lanes : (job.lines.lanes ≡ []) ⊎ HasLanes job
  pub absent : Each (IsModule job.functions) job.lines.absent
  pub modules : Each (λ row. IsModule job.functions row.owner) job.lines.modules

-- ## what is kept of a trace

-- a trigger has a set of so many functions, and its limit is within that of all triggers
pub record IsTriggerOf (size : ℕ) (trigger : PlainTrigger) : Type 0 where
  pub set : length trigger.set ≡ size
  pub limit : IfSome trigger.limit (λ n. (1 ≤ n) × (n ≤ TRIGGER_LIMIT))

-- a ring has an entry, and no more than it may have; there are no more triggers than there may be, over the job's functions
pub record AreRingsPlanned (job : Job) : Type 0 where
  pub some : 1 ≤ job.rings.ring
  pub ring : job.rings.ring ≤ RING
  pub few : length job.rings.triggers ≤ TRIGGERS
  pub triggers : Each (IsTriggerOf (funcs job)) job.rings.triggers
