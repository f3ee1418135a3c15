-- What a table of a job's desks tells of them.
use denote.Bor.{Bor}
use Rattle.std.proofs.Common.{◌≡◌, ℕ, zero, suc, ◌+◌, ◌-◌, ◌≤◌, List, [], ◌∷◌, length, map, Option, Some, None, get_or, refl, ◌<◌, sym, ap, ◌∙◌, subst, arith}
use Rattle.std.specs.Prelude.{IfSome, option_map, slice_get}
use Rattle.std.specs.Option.{option_copied}
use Rattle.std.specs.List.{range_with_len}
use Rattle.std.proofs.lemmas.List.{get_or_past, length-map}
use Rattle.std.proofs.lemmas.List.FromFn.{length-map-range_with_len, get_or-map-range_with_len}
use Rattle.std.specs.Slice.{IsItemAt}
use Rattle.std.proofs.lemmas.Option.{slice_get_past, slice_get_read, get_or_from_slice_get}
use Rattle.ft_base.specs.declared.item.Ran.{Ran}
use Rattle.ft_base.specs.declared.number.UserNo.{UserNo}
use Rattle.ft_base.specs.Job.{Command, Job, Spec, commands, funcs, takes_off}
use Rattle.ft_base.specs.Desk.{Desk, answer_at, desk, is_allowed, target, unseen, user_at}
use Rattle.ft_base.proofs.DeskLaws.{length-desk}
use Rattle.ft_base.proofs.Small.{each-pushed}
use Rattle.ft_desk.specs.Declarations.{IsOf, bare}
use Rattle.ft_desk.specs.DeskView.{DeskView, opened}
use Rattle.history_check.specs.declared.desks.Row.{Row}
use Rattle.history_check.specs.TakenOff.{answer_of, taken_off, taken_by}
use Rattle.history_check.specs.DeskRows.{AreRowsOf, IsDeskOf, IsRowOf, IsRowOfView, IsSightOf}
use Rattle.ft_job.proofs.DeskLaws.{desk-past, new-commands, new-state}

-- ## users

-- a number that the job doesn't have
pub user-past : (job : Job) (k u : ℕ) → length job.users ≤ u → user_at (desk job k) u ≡ unseen 0
user-past job k u past = let n = length-desk job k in get_or_past (desk job k).users u (unseen 0) (omega (arith, n, past))

-- ## rows

-- what holds of what stands at a place holds of what a call found there
pub found-there : {A : Type 0} (P : A → Type 0) (xs : List A) (i : ℕ) (o : Option (Bor A)) → option_copied o ≡ slice_get xs i
    → ((x : A) → slice_get xs i ≡ Some x → P x) → IfSome o (λ x. P x.now)
found-there P xs i None e h = tt
found-there P xs i (Some x) e h = h x.now (sym e)

-- a call that looks up a place finds what stands there
pub copied-at : {A : Type 0} (xs : List A) (i : ℕ) (o : Option (Bor A)) → IsItemAt xs i o → option_copied o ≡ slice_get xs i
copied-at xs i None h = sym (slice_get_past xs i (h.3))
copied-at xs i (Some x) h = sym (slice_get_read xs (length xs) i x.now refl h.3.0 h.1)

-- the last row tells of all desks after it
pub row-last : (job : Job) (rows : List Row) → AreRowsOf job rows → (k : ℕ) (r : Row) → length rows ≤ k → slice_get rows (length rows - 1) ≡ Some r
    → IsDeskOf job (desk job k) r
row-last job rows are k r past at =
    let n = length (commands job) in
    let size = are.size in
    let last : length rows - 1 ≡ n = omega (arith, size) in
    let more : n + (k - n) ≡ k = omega (arith, size, past) in
    subst (λ (t : Desk). IsDeskOf job t r) (sym (desk-past job n (k - n) (omega arith)) ∙ ap (desk job) more)
    (are.each n r (ap (slice_get rows) (sym last) ∙ at)).desk'

-- after the last row there is no command
no-command : (job : Job) (rows : List Row) → AreRowsOf job rows → (k : ℕ) → length rows ≤ k → (n : ℕ) → k ≡ suc n → slice_get (commands job) n ≡ None
no-command job rows are k past n is = let size = are.size in slice_get_past (commands job) n (omega (arith, size, past, is))

pub no-answer : (job : Job) (rows : List Row) → AreRowsOf job rows → (k : ℕ) → length rows ≤ k → None ≡ answer_of job k
no-answer job rows are zero past = refl
no-answer job rows are (suc n) past = sym (ap (option_map (answer_at job n)) (no-command job rows are (suc n) past n refl))

pub none-off : (job : Job) (rows : List Row) → AreRowsOf job rows → (k : ℕ) → length rows ≤ k → None ≡ taken_off job k
none-off job rows are zero past = refl
none-off job rows are (suc n) past = sym (ap taken_by (no-command job rows are (suc n) past n refl))

-- what a function of the job runs is there
module _ (job : Job) (d : Desk) (r : Row) (is : IsDeskOf job d r) (f : ℕ) where
  length-runs : length r.runs.items ≡ funcs job
  length-runs = ap length is.runs ∙ length-map-range_with_len (target d) 0 (funcs job)

  pub run-there : (x : Ran) → f < funcs job → slice_get r.runs.items f ≡ Some x → x ≡ target d f
  run-there x lt at =
      sym (get_or_from_slice_get r.runs.items f x x at) ∙ ap (λ xs. get_or xs f x) is.runs
      ∙ get_or-map-range_with_len (target d) 0 (funcs job) f f x lt (omega arith)

  pub run-past : f < funcs job → length r.runs.items ≤ f → ⊥
  run-past lt past = let n = length-runs in omega (arith, n, lt, past)

-- ## a row that was just made

module _ (job : Job) (s : DeskView) (is : IsOf job s.declared) where
  -- it is that of a desk of the job
  desk-made : (k : ℕ) (r : Row) → s.state ≡ desk job k → IsRowOfView s r → IsDeskOf job (desk job k) r
  desk-made k r same seen = record {
    users = record {
      size = seen.size ∙ ap (λ (ss : List Spec). length ss) is.specs ∙ length-map job.users bare;
      each = λ u x at. subst (λ (t : Desk). IsSightOf (user_at t u) x) same (seen.each u x at);
    };
    allowed = λ t lt. seen.allowed t (let n = is.tasks in omega (arith, n, lt)) ∙ ap (λ (d : Desk). is_allowed d t) same;
    depth = seen.depth ∙ ap (λ (d : Desk). d.depth) same;
    runs = seen.runs ∙ (λ i. map (target (same i)) (range_with_len 0 (is.funcs i)));
  }

  row-made : (k : ℕ) (r : Row) → s.state ≡ desk job k → IsRowOfView s r → r.answer ≡ answer_of job k → option_map (λ u. u.0) r.off ≡ taken_off job k
      → IsRowOf job k r
  row-made k r same seen answer off = record { desk' = desk-made k r same seen; answer = answer; off = off }

  -- the first of all, of a desk that was just made
  pub first-made : s ≡ opened s.declared → (r : Row) → IsRowOfView s r → r.answer ≡ None → r.off ≡ None
      → (k : ℕ) (y : Row) → slice_get (r ∷ []) k ≡ Some y → IsRowOf job k y
  first-made new r seen answer off =
      each-pushed (IsRowOf job) [] r (λ k y e. absurd cc)
      (row-made 0 r (new-state s new job is ∙ ap (desk job) (new-commands s new)) seen answer (ap (option_map (λ (u : UserNo). u.0)) off))

  -- and one of the desk after a command
  pub next-made : (n : ℕ) → s.commands ≡ suc n → (c : Command) → slice_get (commands job) n ≡ Some c → (r : Row) → s.state ≡ desk job s.commands
      → IsRowOfView s r → r.answer ≡ Some (answer_at job n c) → option_map (λ u. u.0) r.off ≡ takes_off c
      → IsRowOf job (suc n) r
  next-made n count c at r same seen answer off =
      row-made (suc n) r (same ∙ ap (desk job) count) seen (answer ∙ sym (ap (option_map (answer_at job n)) at)) (off ∙ sym (ap taken_by at))
