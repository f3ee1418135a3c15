-- What is found by a name of the job.
use Rattle.std.proofs.Common.{◌≡◌, ◌<◌, ℕ, List, length, Option, Some, None, refl, ap, ◌∙◌}
use Rattle.std.specs.Prelude.{IfSome}
use Rattle.ft_base.specs.declared.number.FuncNo.{FuncNo}
use Rattle.ft_base.specs.declared.number.UserNo.{UserNo}
use Rattle.ft_base.specs.declared.number.TaskNo.{TaskNo}
use Rattle.ft_base.specs.Job.{Job, funcs}
use Rattle.trace_views.specs.Words.{function_word, user_word, pid_at}
use Rattle.trace_lines.specs.LogItems.{IsNamedApart}
use Rattle.log_reader.specs.Lookups.{Lookups, IsFound, AreLookupsOf}

module _ {A B : Type 0} (number : B → ℕ) (count : ℕ) (name : ℕ → A) where
  -- it is below the count
  pub found-below : (sought : A) (found : Option B) → IsFound number count name sought found → IfSome found (λ x. number x < count)
  found-below sought None h = tt
  found-below sought (Some x) h = h.0

  -- one with the name of a number is found
  pub found-named : (k : ℕ) (found : Option B) → k < count → IsFound number count name (name k) found → (x : B) × (found ≡ Some x) × (number x < count) × (name (number x) ≡ name k)
  found-named k None lt h = absurd (h k lt refl)
  found-named k (Some x) lt h = (x, refl, h.0, h.1)

module _ (job : Job) (find : Lookups) (of : AreLookupsOf job find) where
  pub function-below : (w : List ℕ) → IfSome (find.function w) (λ f. f.0 < funcs job)
  function-below w = found-below (λ (f : FuncNo). f.0) (funcs job) (function_word job) w (find.function w) (of.function w)

  pub user-below : (w : List ℕ) → IfSome (find.user w) (λ u. u.0 < length job.users)
  user-below w = found-below (λ (u : UserNo). u.0) (length job.users) (user_word job) w (find.user w) (of.user w)

  pub task-below : (pid : ℕ) → IfSome (find.task pid) (λ t. t.0 < length job.tasks)
  task-below pid = found-below (λ (t : TaskNo). t.0) (length job.tasks) (pid_at job) pid (find.task pid) (of.task pid)

  module _ (apart : IsNamedApart job) where
    pub function-again : (f : FuncNo) → f.0 < funcs job → find.function (function_word job f.0) ≡ Some f
    function-again f lt =
        let x = found-named (λ (g : FuncNo). g.0) (funcs job) (function_word job) f.0 (find.function (function_word job f.0)) lt (of.function (function_word job f.0)) in
        let is : x.0.0 ≡ f.0 = apart.apart_functions x.0.0 f.0 x.2 lt x.3 in
        x.1 ∙ ap (λ (n : ℕ). Some (record { 0 = n })) is

    pub user-again : (u : UserNo) → u.0 < length job.users → find.user (user_word job u.0) ≡ Some u
    user-again u lt =
        let x = found-named (λ (v : UserNo). v.0) (length job.users) (user_word job) u.0 (find.user (user_word job u.0)) lt (of.user (user_word job u.0)) in
        let is : x.0.0 ≡ u.0 = apart.apart_users x.0.0 u.0 x.2 lt x.3 in
        x.1 ∙ ap (λ (n : ℕ). Some (record { 0 = n })) is

    pub task-again : (t : TaskNo) → t.0 < length job.tasks → find.task (pid_at job t.0) ≡ Some t
    task-again t lt =
        let x = found-named (λ (s : TaskNo). s.0) (length job.tasks) (pid_at job) t.0 (find.task (pid_at job t.0)) lt (of.task (pid_at job t.0)) in
        let is : x.0.0 ≡ t.0 = apart.apart_pids x.0.0 t.0 x.2 lt x.3 in
        x.1 ∙ ap (λ (n : ℕ). Some (record { 0 = n })) is
