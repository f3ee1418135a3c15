-- A bound on the items that one scripted call makes, with all callbacks of its users.
use Rattle.std.specs.Prelude.{ℕ, zero, suc, ◌+◌, ◌*◌, List, length, count_by, is_some}
use Rattle.ft_base.specs.Job.{Job, Spec as PlainSpec}
use Rattle.ft_base.specs.Versions.{levels}

-- how many users have an act
abbrev pub acting_in : List PlainSpec → ℕ
acting_in specs = count_by (λ s. is_some s.act) specs

-- A call in which acts nest n deep. It has 4 items of its own: it is entered, its body runs, it is left and it returns. Each user adds
-- at most 5: a callback at the entry and one at the return, each with its end, and a miss. Each act makes a further call. In the
-- deepest call all levels of the guards of all contexts that it can have are held, so each user adds one item, its refusal.
abbrev pub nested_bound : (users acting : ℕ) → ℕ → ℕ
nested_bound users acting zero = 4 + users
nested_bound users acting (suc n) = 4 + 5 * users + acting * nested_bound users acting n

-- The bound for these users. Acts nest as deep as the guard of the call's context has levels, and then as deep as that of an interrupt
abbrev pub call_bound_of : List PlainSpec → ℕ → ℕ
call_bound_of specs levels = nested_bound (length specs) (acting_in specs) (2 * levels)

-- the bound for the users of a job
abbrev pub call_bound_in : Job → ℕ
call_bound_in job = call_bound_of job.users (levels job)
