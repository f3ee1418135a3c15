-- The calls of acts, one act after the other.
use Rattle.std.proofs.Common.{◌≡◌, ◌≢◌, ℕ, ◌+◌, ◌<◌, List, [], ◌∷◌, ◌++◌, length, take, get_or, refl, ap, ◌∙◌, arith}
use Rattle.std.proofs.lemmas.List.{take_more}
use Rattle.ft_base.specs.declared.number.FuncNo.{FuncNo}
use Rattle.ft_base.specs.declared.task.TaskAct.{TaskAct}
use Rattle.ft_base.specs.declared.task.TaskAct.TheVariants.{Call, Ret, Raise, Lower, After}
use Rattle.history_laws.specs.Bound.{calls_in}

calls-append : (xs ys : List TaskAct) → calls_in (xs ++ ys) ≡ calls_in xs + calls_in ys
calls-append [] ys = omega arith
calls-append (Call f ∷ xs) ys = let more = calls-append xs ys in omega (arith, more)
calls-append (Ret ∷ xs) ys = calls-append xs ys
calls-append (Raise c ∷ xs) ys = calls-append xs ys
calls-append (Lower ∷ xs) ys = calls-append xs ys
calls-append (After n ∷ xs) ys = calls-append xs ys

-- one more act
pub calls-more : (acts : List TaskAct) (i : ℕ) (d : TaskAct) → i < length acts
    → calls_in (take (i + 1) acts) ≡ calls_in (take i acts) + calls_in (get_or acts i d ∷ [])
calls-more acts i d lt = ap calls_in (take_more acts i d lt) ∙ calls-append (take i acts) (get_or acts i d ∷ [])

-- another act is no call
pub no-call : (a : TaskAct) → ((f : FuncNo) → a ≢ Call f) → calls_in (a ∷ []) ≡ 0
no-call (Call f) other = absurd (other f refl)
no-call Ret other = refl
no-call (Raise c) other = refl
no-call Lower other = refl
no-call (After n) other = refl
