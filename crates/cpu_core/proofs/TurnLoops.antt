-- One more task of a CPU has started.
use Rattle.std.proofs.Common.{ℕ, List, [], ◌∷◌, ◌++◌}
use Rattle.user_specs.specs.declared.plan.TaskPlan.{TaskPlan}
use Rattle.task_core.specs.declared.task.Task.{Task}
use Rattle.cpu_core.specs.Turns.{AreStarted, IsStarted}

pub started-push : (frames levels : ℕ) (ps : List TaskPlan) (ts : List Task) (p : TaskPlan) (t : Task) → AreStarted frames levels ps ts → IsStarted frames levels p t
    → AreStarted frames levels (ps ++ p ∷ []) (ts ++ t ∷ [])
started-push frames levels [] [] p t h s = (s, tt)
started-push frames levels (q ∷ qs) (u ∷ us) p t h s = (h.0, started-push frames levels qs us p t h.1 s)
started-push frames levels [] (u ∷ us) p t h s = elim h [ ]
started-push frames levels (q ∷ qs) [] p t h s = elim h [ ]
