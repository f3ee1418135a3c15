-- Tasks by number.
use Rattle.std.proofs.Common.{◌≡◌, ℕ, zero, suc, ◌≤◌, List, [], ◌∷◌, length, get_or, Some, refl, sym, ap, ◌∙◌, arith}
use Rattle.std.specs.Prelude.{slice_get, option_map, unwrap_or}
use Rattle.std.proofs.lemmas.List.FromFn.{length-map-range_with_len, get_or-map-range_with_len}
use Rattle.std.proofs.lemmas.Option.{slice_get_within, get_or_from_slice_get}
use Rattle.ft_base.specs.Job.{Job, Task, no_task}
use Rattle.trace_views.specs.declared.named.TaskName.{TaskName}
use Rattle.trace_views.specs.Words.{pid_at, cpu_at}
use Rattle.trace_print.specs.TaskNames.{name_at, names_of}

-- a number of a task, or 0 if there is no such task
pub number-or : (f : Task → ℕ) (ts : List Task) (n : ℕ) → f no_task ≡ 0 → unwrap_or (option_map f (slice_get ts n)) 0 ≡ f (get_or ts n no_task)
number-or f [] n none = sym none
number-or f (t ∷ ts) zero none = refl
number-or f (t ∷ ts) (suc n) none = number-or f ts n none

-- a task that there isn't
no-task : (ts : List Task) (n : ℕ) → length ts ≤ n → get_or ts n no_task ≡ no_task
no-task [] n le = refl
no-task (t ∷ ts) zero le = absurd (omega (arith, le))
no-task (t ∷ ts) (suc n) le = no-task ts n (omega (arith, le))

module _ (job : Job) (t : ℕ) where
  pub name-there : (name : TaskName) → slice_get (names_of job) t ≡ Some name → name ≡ name_at job t
  name-there name here =
      let within = slice_get_within (names_of job) t name here in
      let long = length-map-range_with_len (name_at job) 0 (length job.tasks) in
      sym (get_or_from_slice_get (names_of job) t name name here)
      ∙ get_or-map-range_with_len (name_at job) 0 (length job.tasks) t t name (omega (arith, within, long)) (omega arith)

  pub no-name : length (names_of job) ≤ t → (0 ≡ pid_at job t) × (0 ≡ cpu_at job t)
  no-name past =
      let long = length-map-range_with_len (name_at job) 0 (length job.tasks) in
      let none = no-task job.tasks t (omega (arith, past, long)) in
      (sym (ap (λ (x : Task). x.pid) none), sym (ap (λ (x : Task). x.cpu) none))
