-- How marks keep the raised contexts: a higher context is always raised later.
use Rattle.std.specs.Prelude.{Bool, true, false, List, [], ◌∷◌}
use Rattle.ft_base.specs.declared.context.Ctx.{Ctx}
use Rattle.ft_base.specs.declared.context.Ctx.TheVariants.{Softirq, Irq, Nmi}
use Rattle.recursion_guard.specs.declared.by_context.ByContext.{ByContext}

-- a context over those below it, if it is marked
abbrev pub over : Bool → Ctx → List Ctx → List Ctx
over true c below = c ∷ below
over false c below = below

-- the marked contexts, the highest first; the normal one isn't raised
abbrev pub marked : ByContext → List Ctx
marked marks = over marks.nmi Nmi (over marks.irq Irq (over marks.softirq Softirq []))
