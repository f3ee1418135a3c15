-- The calls of a task's script.
use Rattle.std.proofs.Common.{◌≡◌, ℕ, zero, suc, ◌<◌, ◌≤◌, List, [], ◌∷◌, length, get_or, Some, None, refl, ap, arith, sum_by}
use Rattle.std.specs.Prelude.{slice_get, option_map}
use Rattle.std.proofs.lemmas.List.Sums.{get_or-le-sum_by}
use Rattle.ft_base.specs.declared.task.TaskAct.{TaskAct}
use Rattle.ft_base.specs.declared.task.TaskAct.TheVariants.{Call}
use Rattle.ft_base.specs.Job.{Task, no_task}
use Rattle.history_laws.specs.Bound.{calls_in}

-- the script of a task that there is
pub acts-at : (ts : List Task) (t : ℕ) (acts : List TaskAct) → Some acts ≡ option_map (λ x. x.acts) (slice_get ts t) → acts ≡ (get_or ts t no_task).acts
acts-at [] t acts e = absurd cc
acts-at (x ∷ ts) zero acts e = cc
acts-at (x ∷ ts) (suc t) acts e = acts-at ts t acts e

-- it is no longer than all scripts
there : (ts : List Task) (t : ℕ) (acts : List TaskAct) → Some acts ≡ option_map (λ x. x.acts) (slice_get ts t) → t < length ts
there [] t acts e = absurd cc
there (x ∷ ts) zero acts e = omega arith
there (x ∷ ts) (suc t) acts e = let lt = there ts t acts e in omega (arith, lt)

pub acts-few : (ts : List Task) (t most : ℕ) (acts : List TaskAct) → Some acts ≡ option_map (λ x. x.acts) (slice_get ts t) → sum_by (λ x. length x.acts) ts ≤ most → length acts ≤ most
acts-few ts t most acts e few =
    let is = ap (λ (xs : List TaskAct). length xs) (acts-at ts t acts e) in
    let le = get_or-le-sum_by (λ (x : Task). length x.acts) ts t no_task (there ts t acts e) in
    omega (arith, is, le, few)

-- a task that there isn't has no script
pub no-acts : (ts : List Task) (t : ℕ) → None ≡ option_map (λ x. x.acts) (slice_get ts t) → (get_or ts t no_task).acts ≡ []
no-acts [] t e = refl
no-acts (x ∷ ts) zero e = absurd cc
no-acts (x ∷ ts) (suc t) e = no-acts ts t e

-- no more acts are calls than there are
pub calls-few : (acts : List TaskAct) → calls_in acts ≤ length acts
calls-few [] = omega arith
calls-few (Call f ∷ acts) = let few = calls-few acts in omega (arith, few)
calls-few (_ ∷ acts) = let few = calls-few acts in omega (arith, few)
