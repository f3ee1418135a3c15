-- A list that is changed at one place is the function that is changed there.
use Rattle.std.proofs.Common.{◌≡◌, ℕ, zero, suc, ◌<◌, List, length, map, get_or, replicate, slice_set, refl, inl, inr, arith, get_or-set_same, get_or-set_other}
use Rattle.std.specs.List.{range_with_len}
use Rattle.std.proofs.lemmas.Bool.Decides.{eqb_tells}
use Rattle.std.proofs.lemmas.Bool.{cases_lt}
use Rattle.std.proofs.lemmas.List.{get_or_past}
use Rattle.std.proofs.lemmas.List.FromFn.{get_or-map-range_with_len, length-map-range_with_len}
use Rattle.ft_base.specs.Job.{Job}
use Rattle.word_map.specs.Words.{at_put}
use Rattle.word_machine.specs.Task.{TaskState, task_start}
use Rattle.word_machine.specs.Values.{tasks_in, copies_in}

put-at : {A : Type 0} (xs : List A) (i : ℕ) (x : A) (d : ℕ → A) (k : ℕ) → i < length xs
    → get_or (slice_set xs i x) k (d k) ≡ at_put (λ n. get_or xs n (d n)) i x k
put-at xs i x d k lt = elim (eqb_tells k i) [
  | inl e ↦ rw (e.0, e.1) (get_or-set_same xs i x (d i) lt)
  | inr e ↦ (let ne = e.1 in rw e.0 (get_or-set_other xs i k x (d k) ne))
]

module _ (job : Job) where
  start-at : (n t : ℕ) → get_or (map (task_start job) (range_with_len 0 n)) t (task_start job t) ≡ task_start job t
  start-at n t = elim (cases_lt t n) [
    | inl lt ↦ get_or-map-range_with_len (task_start job) 0 n t t (task_start job t) lt (omega arith)
    | inr ge ↦ get_or_past (map (task_start job) (range_with_len 0 n)) t (task_start job t)
        (let e = length-map-range_with_len (task_start job) 0 n in omega (arith, e, ge))
  ]

  pub tasks-start : (n : ℕ) → tasks_in job (map (task_start job) (range_with_len 0 n)) ≡ task_start job
  tasks-start n = λ i t. start-at n t i

  pub tasks-put : (tasks : List TaskState) (t : ℕ) (x : TaskState) → t < length tasks
      → tasks_in job (slice_set tasks t x) ≡ at_put (tasks_in job tasks) t x
  tasks-put tasks t x lt = λ i k. put-at tasks t x (task_start job) k lt i

pub copy-start : (n u : ℕ) → copies_in (replicate n 0) u ≡ 0
copy-start zero u = refl
copy-start (suc n) zero = refl
copy-start (suc n) (suc u) = copy-start n u

pub copies-start : (n : ℕ) → copies_in (replicate n 0) ≡ (λ u. 0)
copies-start n = λ i u. copy-start n u i

pub copies-put : (copies : List ℕ) (u copy : ℕ) → u < length copies → copies_in (slice_set copies u copy) ≡ at_put (copies_in copies) u copy
copies-put copies u copy lt = λ i k. put-at copies u copy (λ n. 0) k lt i
