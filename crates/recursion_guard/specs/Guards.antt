-- The contexts that a task is in, and how many levels of their guards are held (ftrace-uses.rst, Protect your callback).
use Rattle.std.specs.Prelude.{ℕ, suc, ◌<◌, ◌-◌, Bool, false, nat_le, List, []}
use Rattle.ft_base.specs.declared.context.Ctx.{Ctx}
use Rattle.ft_base.specs.declared.context.Ctx.TheVariants.{Normal, Softirq, Irq, Nmi}
use Rattle.ft_base.specs.Same.{context}
use Rattle.recursion_guard.specs.declared.by_context.ByContext.{ByContext}
use Rattle.recursion_guard.specs.declared.held.HeldLevels.{HeldLevels}

-- ## contexts

-- no context is marked
abbrev pub unmarked : ByContext
unmarked = record { normal = false; softirq = false; irq = false; nmi = false }

-- the mark of a context
abbrev pub mark_of : ByContext → Ctx → Bool
mark_of marks Normal = marks.normal
mark_of marks Softirq = marks.softirq
mark_of marks Irq = marks.irq
mark_of marks Nmi = marks.nmi

-- the marks with another one of a context
abbrev pub with_mark : ByContext → Ctx → Bool → ByContext
with_mark marks Normal mark = record marks { normal = mark }
with_mark marks Softirq mark = record marks { softirq = mark }
with_mark marks Irq mark = record marks { irq = mark }
with_mark marks Nmi mark = record marks { nmi = mark }

-- ## guards

-- no level of any guard is held
abbrev pub unheld : HeldLevels
unheld = record { normal = 0; softirq = 0; irq = 0; nmi = 0 }

-- how many levels of a context's guard are held
abbrev pub held_in : HeldLevels → Ctx → ℕ
held_in held Normal = held.normal
held_in held Softirq = held.softirq
held_in held Irq = held.irq
held_in held Nmi = held.nmi

-- the same with another number for a context
abbrev pub with_held : HeldLevels → Ctx → ℕ → HeldLevels
with_held held Normal n = record held { normal = n }
with_held held Softirq n = record held { softirq = n }
with_held held Irq n = record held { irq = n }
with_held held Nmi n = record held { nmi = n }

-- the raised contexts, the latest first, for each context how many levels of its guard are held, and how many levels a guard has
pub record GuardState : Type 0 where
  pub raised : List Ctx
  pub held : HeldLevels
  pub levels : ℕ

-- a task in its normal context, with no guard held
abbrev pub at_start : ℕ → GuardState
at_start levels = record { raised = []; held = unheld; levels = levels }

-- how many levels of the guard of the present context are held
abbrev pub held_now : GuardState → ℕ
held_now g = held_in g.held (context g.raised)

-- all levels of it are held
abbrev pub is_full : GuardState → Bool
is_full g = nat_le g.levels (held_now g)

-- a level of it is held
abbrev pub IsHeld : GuardState → Type 0
IsHeld g = 0 < held_now g

-- one more level of it is held
abbrev pub entered : GuardState → GuardState
entered g = record g { held = with_held g.held (context g.raised) (suc (held_now g)) }

-- one level of it is given back
abbrev pub left : GuardState → GuardState
left g = record g { held = with_held g.held (context g.raised) (held_now g - 1) }
