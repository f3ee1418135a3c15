-- Lists that have something for each task, over a change.
use Rattle.std.proofs.Common.{cond, ◌≡◌, ℕ, ◌<◌, ◌==◌, List, length, set, sym, ap, ◌∙◌, inl, inr}
use Rattle.std.proofs.lemmas.Bool.Decides.{eqb_tells}
use Rattle.std.proofs.lemmas.List.{length-set, get_or-set_same, get_or-set_other}
use Rattle.trace_views.specs.ByTask.{IsByTask}

module _ {A : Type 0} (tasks : ℕ) (none : A) (of of' : ℕ → A) (xs ys : List A) (is : IsByTask tasks none of xs) where
  -- one task's is replaced
  pub by_task-set : (i : ℕ) (x : A) → i < tasks → ys ≡ set xs i x → ((t : ℕ) → of' t ≡ cond (i == t) x (of t)) → IsByTask tasks none of' ys
  by_task-set i x lt same step = record {
    tasks' = ap length same ∙ length-set xs i x ∙ is.tasks';
    each = λ t below. elim (eqb_tells i t) [
      | inl e ↦ (let at : i ≡ t = e.1 in rw (same, step t, e.0, ← at) (get_or-set_same xs i x none (rw is.tasks' lt)))
      | inr e ↦ rw (same, step t, e.0) (get_or-set_other xs i t x none (λ q. e.1 (sym q)) ∙ is.each t below)
    ];
  }

  -- none is
  pub by_task-same : ys ≡ xs → ((t : ℕ) → of' t ≡ of t) → IsByTask tasks none of' ys
  by_task-same same step = record {
    tasks' = ap length same ∙ is.tasks';
    each = λ t below. rw (same, step t) (is.each t below);
  }
