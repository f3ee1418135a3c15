-- What holds of what is declared, if no line has a cause.
use Rattle.std.specs.Prelude.{ℕ, zero, suc, ◌≡◌, ◌*◌, ◌<◌, ◌≤◌, Bool, true, false, List, [], ◌∷◌, length, map, sum_by, count_by, Option, Some, None, unwrap_or, IfSome}
use Rattle.std.specs.List.{AllByRecursion as Each}
use Rattle.ft_base.specs.declared.context.Ctx.{Ctx}
use Rattle.ft_base.specs.declared.context.Ctx.TheVariants.{Softirq, Irq, Nmi}
use Rattle.ft_base.specs.declared.limits.TheConstants.{FRAMES, ITEMS, LANES, QUANTUM, RING, TRIGGERS}
use Rattle.ft_base.specs.declared.task.TaskAct.{TaskAct}
use Rattle.ft_base.specs.Job.{Spec, Trigger}
use Rattle.ft_base.specs.Versions.{limits_of, IsVersion}
use Rattle.ft_base.specs.Acts.{Leads, Raises, AreRaised}
use Rattle.ft_base.specs.WellFormed.{IsNamedIn, IsSetIn, IsActIn}
use Rattle.history_laws.specs.Bound.{calls_in}
use Rattle.user_specs.specs.Bound.{call_bound_of}
use Rattle.word_machine.specs.Limits.{IsLevel}
use Rattle.ft_job.specs.Plans.{IsModule, IsTriggerOf}
use Rattle.module_table.specs.Lines.{Plain, Load, Unload}
use Rattle.script_waits.specs.declared.script.LinedAct.{LinedAct}
use Rattle.script_waits.specs.Tasks.{LinedTask}
use Rattle.ft_script.specs.declared.levels.Levels.{Levels}
use Rattle.ft_script.specs.Levels.{open_calls, is_unfinished}
use Rattle.ft_script.specs.Above.{Above, ScriptCtl, Run, Until}
use Rattle.ft_script.specs.Within.{IsWithinLimits, IsInOrder}

-- ## tasks

-- the acts of a task, without their lines
abbrev pub acts_of : LinedTask → List TaskAct
acts_of task = map (λ (a : LinedAct). a.act) task.acts

-- the calls of all tasks have returned, but for `running` of the last one
abbrev pub Balanced : ℕ → List LinedTask → ℕ → Type 0
Balanced size [] running = running ≡ 0
Balanced size (p ∷ []) running = Leads size 0 (acts_of p) running
Balanced size (p ∷ q ∷ ps) running = Leads size 0 (acts_of p) 0 × Balanced size (q ∷ ps) running

-- a context above these, if it is raised
abbrev pub above_them : Ctx → Option ℕ → List Ctx → List Ctx
above_them c None cs = cs
above_them c (Some n) cs = c ∷ cs

-- the raised contexts, the latest first
abbrev pub contexts_in : Levels → List Ctx
contexts_in l = above_them Nmi l.nmi (above_them Irq l.irq (above_them Softirq l.softirq []))

-- acts lead from these contexts to those: each interrupt comes above the present one, and goes after it came
abbrev pub RaisesTo : List Ctx → List TaskAct → List Ctx → Type 0
RaisesTo cs acts cs' = Raises (λ c. c ≡ cs') cs acts

-- each task's interrupts do so, and those of the last one lead to the contexts that the levels tell
abbrev pub TasksRaise : List LinedTask → Levels → Type 0
TasksRaise [] l = Unit {0}
TasksRaise (p ∷ []) l = RaisesTo [] (acts_of p) (contexts_in l)
TasksRaise (p ∷ q ∷ ps) l = AreRaised [] (acts_of p) × TasksRaise (q ∷ ps) l

-- tasks on so many CPUs, with so many acts and calls in all; their acts are balanced, and their interrupts come and go in order. There are
-- `size` functions
pub record TasksHold (size cpus : ℕ) (tasks : List LinedTask) (levels : Levels) (acts calls : ℕ) : Type 0 where
  pub placed : Each (λ p. p.cpu < cpus) tasks
  pub balanced : Balanced size tasks (open_calls levels)
  pub raised : TasksRaise tasks levels
  pub all_acts : sum_by (λ (p : LinedTask). length p.acts) tasks ≡ acts
  pub all_calls : sum_by (λ (p : LinedTask). calls_in (acts_of p)) tasks ≡ calls

-- ## users and lines of control

-- a line of control: its user, its module and its task are declared, its set has a mark for each function, and its depth is within the limit
abbrev pub IsLine : Above → ScriptCtl → Type 0
IsLine above (Run (Plain c)) = IsNamedIn (length above.users) c × IsSetIn (length above.functions) c × IsLevel c
IsLine above (Run (Load owner)) = IsModule above.functions owner
IsLine above (Run (Unload owner)) = IsModule above.functions owner
IsLine above (Until t n) = t < length above.tasks

-- a wait
abbrev pub is_wait : ScriptCtl → Bool
is_wait (Run line) = false
is_wait (Until t n) = true

-- lines of control, of which so many are waits
pub record LinesHold (above : Above) : Type 0 where
  pub named : Each (λ c. IsLine above c.ctl) above.ctls
  pub all : count_by (λ c. is_wait c.ctl) above.ctls ≡ above.waits

-- a command
abbrev pub IsPlain : ScriptCtl → Type 0
IsPlain (Run (Plain c)) = Unit {0}
IsPlain _ = ⊥

-- each line of control is a command and has a lane, and no module is absent
pub record AreInLanes (above : Above) : Type 0 where
  pub plain : Each (λ c. IsPlain c.ctl) above.ctls
  pub each : length above.lanes ≡ length above.ctls
  pub numbers : Each (λ lane. lane < LANES) above.lanes
  pub loaded : above.absent ≡ []

-- no line of control has a lane if there are no lanes; else each has one
abbrev pub LanesHold : Above → ℕ → Type 0
LanesHold above zero = above.lanes ≡ []
LanesHold above (suc last) = AreInLanes above

-- a number that the script may say is at most this, if it says it
abbrev pub IsAtMost : ℕ → Option ℕ → Type 0
IsAtMost limit said = unwrap_or said 0 ≤ limit

-- ## rings and triggers

-- a ring has an entry, and no more than it may have
abbrev pub IsRing : ℕ → Type 0
IsRing entries = (1 ≤ entries) × (entries ≤ RING)

-- the entries of a ring are within the limits, if the script says how many; there are no more triggers than there may be, over `size` functions
pub record RingsHold (size : ℕ) (ring : Option ℕ) (triggers : List Trigger) : Type 0 where
  pub entries : IfSome ring IsRing
  pub few : length triggers ≤ TRIGGERS
  pub each : Each (IsTriggerOf size) triggers

-- ## all

-- what is declared is of a version that there is, within its limits and in order, and names what is there; its calls make no more items than a history may have
pub record Holds (above : Above) : Type 0 where
  pub version : IsVersion above.version
  pub within : IsWithinLimits above
  pub order : IsInOrder above
  pub frames : IsAtMost FRAMES above.frames
  pub absent : Each (IsModule above.functions) above.absent
  pub rings : RingsHold (length above.functions) above.ring above.triggers
  pub users : Each (λ (s : Spec). IsActIn (length above.functions) s.act) above.users
  pub user_lines : length above.user_lines ≡ length above.users
  pub quanta : Each (λ q. q ≤ QUANTUM) above.quanta
  pub tasks : TasksHold (length above.functions) (length above.quanta) above.tasks above.levels above.acts above.calls
  pub lines : LinesHold above
  pub lanes : LanesHold above above.lane_count
  pub items : call_bound_of above.users (limits_of above.version).levels * above.calls ≤ ITEMS

-- the same, and nothing is left open
pub record CanRun (above : Above) : Type 0 where
  pub holds : Holds above
  pub closed : is_unfinished above.levels ≡ false
