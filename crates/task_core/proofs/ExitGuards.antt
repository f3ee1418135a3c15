-- Whether an exit holds a guard, the guards under a call that holds none, and one level of a guard taken or given back.
use Rattle.std.proofs.Common.{cond, ◌≡◌, ℕ, suc, Bool, true, false, ◌+◌, ◌-◌, List, [], ◌∷◌, refl, ap, ◌∙◌, arith}
use Rattle.std.proofs.lemmas.List.Sums.{sum_by-cons}
use Rattle.ft_base.specs.declared.context.Ctx.{Ctx}
use Rattle.ft_base.specs.Same.{same_ctx}
use Rattle.ft_hist.specs.Frames.{FrameUser}
use Rattle.ft_hist.specs.Dispatch.{held_levels}
use Rattle.word_machine.specs.Task.{OpenCall, Moment, guards_under, next_exit}
use Rattle.task_core.specs.TaskInvariant.{guards_at, holds_guard}

pub next-held : (users : List FrameUser) → holds_guard (next_exit users) ≡ false
next-held [] = refl
next-held (m ∷ rest) = refl

pub guards-free : (m : Moment) (c : OpenCall) (below : List OpenCall) → holds_guard m ≡ false → guards_at m (c ∷ below) ≡ guards_under c.scripted below
guards-free m c below e = rw e refl

-- ## one level taken or given back

-- a level of a context's guard is one more that is held of it, and none of another's
pub taken-levels : (x : Ctx) (guards : List Ctx) (k : Ctx)
    → held_levels (x ∷ guards) k ≡ cond (same_ctx x k) (suc (held_levels guards k)) (held_levels guards k)
taken-levels x guards k = sum_by-cons (λ y. cond (same_ctx y k) 1 0) x guards ∙ by (same_ctx x k)
  where
    by : (s : Bool) → cond s 1 0 + held_levels guards k ≡ cond s (suc (held_levels guards k)) (held_levels guards k)
    by true = omega arith
    by false = omega arith

-- and given back it is not
pub given-levels : (x : Ctx) (guards : List Ctx) (k : Ctx)
    → cond (same_ctx x k) (held_levels (x ∷ guards) k - 1) (held_levels (x ∷ guards) k) ≡ held_levels guards k
given-levels x guards k =
    ap (λ n. cond (same_ctx x k) (n - 1) n) (taken-levels x guards k) ∙ by (same_ctx x k) (held_levels guards k)
  where
    by : (s : Bool) (n : ℕ) → cond s (cond s (suc n) n - 1) (cond s (suc n) n) ≡ n
    by true n = omega arith
    by false n = refl
