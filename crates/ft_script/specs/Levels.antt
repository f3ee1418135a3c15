-- The open calls of a task, in each context that it is in.
use Rattle.std.specs.Prelude.{ℕ, suc, ◌+◌, ◌-◌, ◌==◌, ◌||◌, not, Bool, Option, Some, None, unwrap_or, is_some}
use Rattle.ft_base.specs.declared.context.Ctx.{Ctx}
use Rattle.ft_base.specs.declared.context.Ctx.TheVariants.{Normal, Softirq, Irq, Nmi}
use Rattle.ft_base.specs.declared.task.TaskAct.{TaskAct}
use Rattle.ft_base.specs.declared.task.TaskAct.TheVariants.{Call, Ret, Raise, Lower, After}
use Rattle.ft_script.specs.declared.levels.Levels.{Levels}

-- this many open calls in each context; none in a context that isn't raised
abbrev pub levels_at : ℕ → Option ℕ → Option ℕ → Option ℕ → Levels
levels_at normal softirq irq nmi = record { normal = normal; softirq = softirq; irq = irq; nmi = nmi }

-- no call is open and no context is raised
abbrev pub level_ground : Levels
level_ground = levels_at 0 None None None

-- the highest of these contexts that is raised
abbrev pub present_by : Option ℕ → Option ℕ → Option ℕ → Ctx
present_by softirq irq (Some n) = Nmi
present_by softirq (Some n) None = Irq
present_by (Some n) None None = Softirq
present_by None None None = Normal

-- the present context: the highest that is raised
abbrev pub present : Levels → Ctx
present l = present_by l.softirq l.irq l.nmi

-- how many calls are open in a context
abbrev pub open_in : Levels → Ctx → ℕ
open_in l Normal = l.normal
open_in l Softirq = unwrap_or l.softirq 0
open_in l Irq = unwrap_or l.irq 0
open_in l Nmi = unwrap_or l.nmi 0

-- how many calls are open in the present context
abbrev pub open_here : Levels → ℕ
open_here l = open_in l (present l)

-- how many calls are open in all contexts
abbrev pub open_calls : Levels → ℕ
open_calls l = ((l.normal + unwrap_or l.softirq 0) + unwrap_or l.irq 0) + unwrap_or l.nmi 0

-- the same, but with n calls open in this context
abbrev pub with_open : Levels → Ctx → ℕ → Levels
with_open l Normal n = record l { normal = n }
with_open l Softirq n = record l { softirq = Some n }
with_open l Irq n = record l { irq = Some n }
with_open l Nmi n = record l { nmi = Some n }

-- the same, but this context isn't raised
abbrev pub without : Levels → Ctx → Levels
without l Normal = l
without l Softirq = record l { softirq = None }
without l Irq = record l { irq = None }
without l Nmi = record l { nmi = None }

-- the open calls after an act
abbrev pub levels_after : Levels → TaskAct → Levels
levels_after l (Call f) = with_open l (present l) (suc (open_here l))
levels_after l Ret = with_open l (present l) (open_here l - 1)
levels_after l (Raise c) = with_open l c 0
levels_after l Lower = without l (present l)
levels_after l (After n) = l

-- a call is open in the task's own context
abbrev pub has_open_call : Levels → Bool
has_open_call l = not (l.normal == 0)

-- a context is raised
abbrev pub is_raised : Levels → Bool
is_raised l = (is_some l.softirq || is_some l.irq) || is_some l.nmi

-- a call is open, or a context is raised: the task can't be over
abbrev pub is_unfinished : Levels → Bool
is_unfinished l = has_open_call l || is_raised l
