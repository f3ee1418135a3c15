-- Acts nest as deep as the guard of a call's context has levels, and then as deep as that of an interrupt.
use Rattle.std.proofs.Common.{cond, if◌then◌else◌, ◌≡◌, ℕ, zero, suc, ◌+◌, ◌*◌, ◌<◌, ◌≤◌, ◌⊎◌, Bool, true, false, ◌==◌, nat_lt, List, [], ◌∷◌, Option, Some, None, refl, sym, subst, arith, inl, inr, ltb-true}
use Rattle.std.proofs.lemmas.Bool.Decides.{eqb_tells}
use Rattle.ft_base.specs.declared.context.Ctx.{Ctx}
use Rattle.ft_base.specs.declared.context.Ctx.TheVariants.{Irq}
use Rattle.ft_base.specs.declared.user.Act.{Act}
use Rattle.ft_base.specs.declared.user.Act.TheVariants.{CallIn, IrqIn}
use Rattle.ft_base.specs.Job.{Job}
use Rattle.ft_base.specs.Same.{same_ctx, rank}
use Rattle.ft_base.specs.Versions.{levels}
use Rattle.ft_base.proofs.Small.{==-refl}
use Rattle.ft_hist.specs.Plain.{Frame, Phase, InBack, Owed, owed_by}
use Rattle.ft_hist.proofs.OpenBacks.{stands, standing, user_in, opens_at}
use Rattle.history_laws.proofs.Credit.{level, pred}

-- a context that an act of a user in another may give
abbrev pub FromAct : Ctx → Ctx → Type 0
FromAct x y = (y ≡ x) ⊎ ((y ≡ Irq) × (rank x < rank Irq))

abbrev pub IsOwedFrom : Ctx → Option Owed → Type 0
IsOwedFrom x None = Unit {0}
IsOwedFrom x (Some o) = FromAct x o.ctx

pub owed-from : (x : Ctx) (act : Option Act) → IsOwedFrom x (owed_by x act)
owed-from x None = tt
owed-from x (Some (CallIn f)) = inl refl
owed-from x (Some (IrqIn f)) = by (nat_lt (rank x) (rank Irq)) refl
  where
    by : (b : Bool) → nat_lt (rank x) (rank Irq) ≡ b → IsOwedFrom x (cond b (Some (record { ctx = Irq; func = f.0 })) None)
    by true e = inr (refl, ltb-true (rank x) (rank Irq) e)
    by false e = tt

abbrev IsInBack : Phase → Type 0
IsInBack (InBack u None fresh) = Unit {0}
IsInBack _ = ⊥

-- a call that an act made, in this context, is over one in an entry callback, from which its context comes
abbrev pub IsUnder : Ctx → List Frame → Type 0
IsUnder x [] = ⊥
IsUnder x (g ∷ below) = IsInBack g.phase × FromAct g.ctx x

module _ (job : Job) where
  -- below an entry callback a level of its guard is free, and what it owes comes from its context
  abbrev pub PhaseHolds : Ctx → List Frame → Phase → Type 0
  PhaseHolds x below (InBack u owed fresh) = (opens_at x (standing below) < levels job) × IsOwedFrom x owed
  PhaseHolds x below _ = Unit {0}

  pub record FrameHolds (f : Frame) (below : List Frame) : Type 0 where
    pub phase : PhaseHolds f.ctx below f.phase
    pub over : f.scripted ≡ false → IsUnder f.ctx below

  abbrev pub Guarded : List Frame → Type 0
  Guarded [] = Unit {0}
  Guarded (f ∷ below) = FrameHolds f below × Guarded below

  -- ## levels

  -- below a call in an interrupt acts may nest in another context too, as deep as its guard has levels
  abbrev elsewhere : Ctx → ℕ
  elsewhere x = if same_ctx x Irq then levels job else 0

  pred-most : (n : ℕ) → n ≤ suc (pred job n)
  pred-most zero = omega arith
  pred-most (suc n) = omega arith

  -- the levels that a call has, and those that the callbacks below it hold, are together all
  all-levels : (x : Ctx) (scripted : Bool) (below : List Frame) → (scripted ≡ false → IsUnder x below) → Guarded below
      → 2 * levels job ≤ (cond scripted (2 * levels job) (pred job (level job below))) + (opens_at x (standing below) + elsewhere x)
  all-levels x true below over h = omega arith
  all-levels x false [] over h = absurd (over refl)
  all-levels x false (g ∷ gs) over h = by g.phase (over refl).0 h.0.phase (over refl).1 (all-levels g.ctx g.scripted gs h.0.over h.1)
    where
      left : ℕ
      left = level job (g ∷ gs)

      less : left ≤ suc (pred job left)
      less = pred-most left

      by : (ph : Phase) → IsInBack ph → PhaseHolds g.ctx gs ph → FromAct g.ctx x → 2 * levels job ≤ left + (opens_at g.ctx (standing gs) + elsewhere g.ctx)
          → 2 * levels job ≤ pred job left + (opens_at x (stands g.call g.ctx (user_in ph) ∷ standing gs) + elsewhere x)
      by (InBack u None fresh) i holds (inl same) more =
          subst (λ y. 2 * levels job ≤ pred job left + (opens_at y (stands g.call g.ctx (Some u) ∷ standing gs) + elsewhere y)) (sym same) (rw (==-refl (rank g.ctx)) (omega (arith, more, less)))
      by (InBack u None fresh) i holds (inr raised) more =
          let lower : (rank g.ctx == rank Irq) ≡ false = apart (rank g.ctx) (rank Irq) raised.1 in
          let below = rw lower at more in
          subst (λ y. 2 * levels job ≤ pred job left + (opens_at y (stands g.call g.ctx (Some u) ∷ standing gs) + elsewhere y)) (sym raised.0) (let free = holds.0 in rw lower (omega (arith, below, less, free)))
        where
          apart : (a b : ℕ) → a < b → (a == b) ≡ false
          apart a b lt = elim (eqb_tells a b) [ inl e ↦ (let same = e.1 in absurd (omega (arith, lt, same))) | inr e ↦ e.0 ]
      by _ i holds from more = absurd i

  some-level : (n : ℕ) → 0 < n → (m : ℕ) × (n ≡ suc m)
  some-level zero lt = absurd (omega (arith, lt))
  some-level (suc m) lt = (m, refl)

  -- a call in whose context a level is free, has a level of acts below it
  pub has-level : (f : Frame) (below : List Frame) → (f.scripted ≡ false → IsUnder f.ctx below) → Guarded below → opens_at f.ctx (standing below) < levels job → (m : ℕ) × (level job (f ∷ below) ≡ suc m)
  has-level f below over h free =
      let all = all-levels f.ctx f.scripted below over h in
      some-level (level job (f ∷ below)) (by (same_ctx f.ctx Irq) all)
    where
      by : (b : Bool) → 2 * levels job ≤ level job (f ∷ below) + (opens_at f.ctx (standing below) + cond b (levels job) 0) → 0 < level job (f ∷ below)
      by true all = omega (arith, all, free)
      by false all = omega (arith, all, free)
