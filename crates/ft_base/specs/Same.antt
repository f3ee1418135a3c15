-- Tests of equality on the numbers that name things, and the order of contexts.
use Rattle.std.specs.Prelude.{ℕ, Bool, ◌&&◌, ◌==◌, nat_lt, List, [], ◌∷◌, Option, Some, None, if◌then◌else◌}
use Rattle.ft_base.specs.declared.number.CallNo.{CallNo}
use Rattle.ft_base.specs.declared.context.Ctx.{Ctx}
use Rattle.ft_base.specs.declared.context.Ctx.TheVariants.{Normal, Softirq, Irq, Nmi}

-- whether two calls are the same call
abbrev pub same_call : CallNo → CallNo → Bool
same_call a b = (a.task.0 == b.task.0) && (a.n == b.n)

-- the rank of a context, the lowest first
abbrev pub rank : Ctx → ℕ
rank Normal = 0
rank Softirq = 1
rank Irq = 2
rank Nmi = 3

-- whether two contexts are the same
abbrev pub same_ctx : Ctx → Ctx → Bool
same_ctx a b = rank a == rank b

-- the context that an interrupt comes in, if it is above the present one
abbrev pub raised : Ctx → Ctx → Option Ctx
raised now to = if nat_lt (rank now) (rank to) then Some to else None

-- the present context, where these have come, the latest first
abbrev pub context : List Ctx → Ctx
context [] = Normal
context (c ∷ rest) = c
