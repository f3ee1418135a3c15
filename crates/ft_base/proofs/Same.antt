-- Contexts that are the same by their ranks are one.
use Rattle.std.proofs.Common.{◌≡◌, true, refl, eqb-true}
use Rattle.ft_base.specs.declared.context.Ctx.{Ctx}
use Rattle.ft_base.specs.declared.context.Ctx.TheVariants.{Normal, Softirq, Irq, Nmi}
use Rattle.ft_base.specs.Same.{same_ctx, rank}

pub same_ctx-eq : (a b : Ctx) → same_ctx a b ≡ true → a ≡ b
same_ctx-eq a b e = by a b (eqb-true (rank a) (rank b) e)
  where
    by : (a b : Ctx) → rank a ≡ rank b → a ≡ b
    by Normal Normal q = refl
    by Softirq Softirq q = refl
    by Irq Irq q = refl
    by Nmi Nmi q = refl
    by Normal Softirq q = absurd cc
    by Normal Irq q = absurd cc
    by Normal Nmi q = absurd cc
    by Softirq Normal q = absurd cc
    by Softirq Irq q = absurd cc
    by Softirq Nmi q = absurd cc
    by Irq Normal q = absurd cc
    by Irq Softirq q = absurd cc
    by Irq Nmi q = absurd cc
    by Nmi Normal q = absurd cc
    by Nmi Softirq q = absurd cc
    by Nmi Irq q = absurd cc
