-- A run makes no more items than the calls of the scripts can.
use Rattle.std.proofs.Common.{ℕ, ◌*◌, ◌≤◌, List, [], ◌∷◌, arith}
use Rattle.std.specs.Prelude.{sum_by}
use Rattle.std.proofs.Math.Nat.{mul-add}
use Rattle.std.proofs.lemmas.List.Sums.{sum_by-cons}
use Rattle.ft_base.specs.Job.{Job}
use Rattle.ft_hist.specs.Rules.{IsLegal, IsLegalPast}
use Rattle.ft_base.specs.declared.item.Item.{Item}
use Rattle.user_specs.specs.Bound.{call_bound_in}
use Rattle.history_laws.specs.Bound.{items_of, calls_of}
use Rattle.history_laws.proofs.Bounded.{items-most, task-bounded}
use Rattle.word_machine.specs.Laws.{tasks_on, items_on, room_on}

-- terms that are at most b times others have a sum that is at most b times theirs
sums : (b : ℕ) (f g : ℕ → ℕ) → ((t : ℕ) → f t ≤ b * g t) → (ts : List ℕ) → sum_by f ts ≤ b * sum_by g ts
sums b f g le [] = omega arith
sums b f g le (t ∷ ts) =
    let e = sum_by-cons f t ts in
    let d = sum_by-cons g t ts in
    let m = mul-add b (g t) (sum_by g ts) in
    let one = le t in
    let more = sums b f g le ts in
    rw (d, e) (omega (arith, m, one, more))

-- the items of a CPU's tasks, the latest first
pub past-on-cpu : (job : Job) (c : ℕ) (past : List Item) → IsLegalPast job past → items_on job c past ≤ room_on job c
past-on-cpu job c past l = sums (call_bound_in job) (λ t. items_of t past) (λ t. calls_of job t) (λ t. items-most job past t l) (tasks_on job c)

-- and in the order of their places
pub on-cpu : (job : Job) (c : ℕ) (items : List Item) → IsLegal job items → items_on job c items ≤ room_on job c
on-cpu job c items l = sums (call_bound_in job) (λ t. items_of t items) (λ t. calls_of job t) (λ t. task-bounded job items t l) (tasks_on job c)
