-- What the acts of a task lead to: which calls are open after them, and which interrupts have come and not gone.
use Rattle.std.specs.Prelude.{ℕ, zero, suc, ◌≡◌, ◌<◌, List, [], ◌∷◌}
use Rattle.ft_base.specs.declared.context.Ctx.{Ctx}
use Rattle.ft_base.specs.declared.task.TaskAct.{TaskAct}
use Rattle.ft_base.specs.declared.task.TaskAct.TheVariants.{Call, Ret, Raise, Lower, After}
use Rattle.ft_base.specs.Same.{rank, context}

-- acts lead from n open calls to m: each calls a function below `size`, and each return has its call
abbrev pub Leads : ℕ → ℕ → List TaskAct → ℕ → Type 0
Leads size n [] m = n ≡ m
Leads size n (Call f ∷ rest) m = (f.0 < size) × Leads size (suc n) rest m
Leads size zero (Ret ∷ rest) m = ⊥
Leads size (suc n) (Ret ∷ rest) m = Leads size n rest m
Leads size n (Raise c ∷ rest) m = Leads size n rest m
Leads size n (Lower ∷ rest) m = Leads size n rest m
Leads size n (After k ∷ rest) m = Leads size n rest m

-- acts lead from these contexts, the latest first, to such: an interrupt that comes is above the present context, and one that goes has come
abbrev pub Raises : (List Ctx → Type 0) → List Ctx → List TaskAct → Type 0
Raises ends cs [] = ends cs
Raises ends cs (Call f ∷ rest) = Raises ends cs rest
Raises ends cs (Ret ∷ rest) = Raises ends cs rest
Raises ends cs (Raise c ∷ rest) = (rank (context cs) < rank c) × Raises ends (c ∷ cs) rest
Raises ends [] (Lower ∷ rest) = ⊥
Raises ends (c ∷ cs) (Lower ∷ rest) = Raises ends cs rest
Raises ends cs (After n ∷ rest) = Raises ends cs rest

-- to whichever
abbrev pub AreRaised : List Ctx → List TaskAct → Type 0
AreRaised cs acts = Raises (λ _. Unit {0}) cs acts
