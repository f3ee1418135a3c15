-- What a judge keeps of a task before its first act.
use Rattle.std.proofs.Common.{◌≡◌, ℕ, zero, suc, ◌≤◌, List, [], ◌∷◌, length, Option, Some, None, refl, sym, ap, ◌∙◌, arith}
use Rattle.std.specs.Prelude.{option_map, slice_get, sum_by}
use Rattle.std.proofs.lemmas.List.Sums.{sum_by-cons}
use Rattle.std.proofs.lemmas.Option.{get_or_from_slice_get}
use Rattle.ft_base.specs.declared.task.TaskAct.{TaskAct}
use Rattle.ft_base.specs.Job.{Job, Task, no_task}
use Rattle.ft_hist.specs.Plain.{plain}
use Rattle.history_check.specs.PlainRuns.{starting}
use Rattle.history_check.specs.declared.task_past.TaskPast.{TaskPast}
use Rattle.history_check.specs.TaskCalls.{AreStacked, IsTaskPast}

-- a task has no more acts than all have
pub few-acts : (ts : List Task) (i : ℕ) (t : Task) → slice_get ts i ≡ Some t → length t.acts ≤ sum_by (λ x. length x.acts) ts
few-acts [] i t e = absurd cc
few-acts (x ∷ ts) zero t e =
    let same : length x.acts ≡ length t.acts = ap (λ (y : Task). length y.acts) (let h : x ≡ t = cc in h) in
    let all = sum_by-cons (λ (y : Task). length y.acts) x ts in
    omega (arith, same, all)
few-acts (x ∷ ts) (suc i) t e =
    let h = few-acts ts i t e in
    let all = sum_by-cons (λ (y : Task). length y.acts) x ts in
    omega (arith, h, all)

-- the task whose acts these are
pub task-there : (ts : List Task) (i : ℕ) (a : List TaskAct) → Some a ≡ option_map (λ t. t.acts) (slice_get ts i) → (t : Task) × (slice_get ts i ≡ Some t) × (t.acts ≡ a)
task-there ts i a e = by (slice_get ts i) refl e
  where
    by : (o : Option Task) → slice_get ts i ≡ o → Some a ≡ option_map (λ t. t.acts) o → (t : Task) × (slice_get ts i ≡ Some t) × (t.acts ≡ a)
    by None at e = absurd cc
    by (Some t) at e = (t, at, cc)

-- or there is none
pub no-task-there : (ts : List Task) (i : ℕ) → None ≡ option_map (λ t. t.acts) (slice_get ts i) → length ts ≤ i
no-task-there [] i e = omega arith
no-task-there (x ∷ ts) zero e = absurd cc
no-task-there (x ∷ ts) (suc i) e = let h = no-task-there ts i e in omega (arith, h)

-- it has done nothing
pub started : (job : Job) (i : ℕ) (t : Task) → slice_get job.tasks i ≡ Some t → (x : TaskPast) → x.run ≡ starting t.acts → x.calls.items ≡ [] → x.due ≡ None → IsTaskPast job [] [] i x
unfolding plain AreStacked
started job i t at x run calls due =
    let here : plain job i [] ≡ Some x.run = ap (λ (y : Task). Some (starting y.acts)) (get_or_from_slice_get job.tasks i t no_task at) ∙ ap Some (sym run) in
    record {
      run = here;
      stack = (x.run, here, rw (calls, run) refl);
      calls = rw calls tt;
      stacked = rw calls tt;
      due = rw due refl;
    }
