-- The desks of a job as a table keeps them.
use Rattle.std.specs.Prelude.{◌≡◌, ℕ, suc, false, ◌<◌, ◌≤◌, ◌&&◌, ◌==◌, List, length, map, Some, slice_get, option_map, sum_by}
use Rattle.std.specs.Int.{bit_at}
use Rattle.std.specs.List.{range_with_len}
use Rattle.ft_base.specs.declared.limits.TheConstants.{ACTS, TASKS}
use Rattle.ft_base.specs.Job.{Job, commands, funcs}
use Rattle.ft_base.specs.WellFormed.{IsWellFormed}
use Rattle.ft_base.specs.Desk.{Desk, UserState, desk, is_allowed, is_on, target, user_at}
use Rattle.ft_desk.specs.DeskView.{DeskView}
use Rattle.history_check.specs.declared.desks.Sight.{Sight}
use Rattle.history_check.specs.declared.desks.Row.{Row}
use Rattle.history_check.specs.declared.desks.Desks.{Desks}
use Rattle.history_check.specs.TakenOff.{answer_of, taken_off}

-- what is kept of a user
pub record IsSightOf (state : UserState) (s : Sight) : Type 0 where
  pub registered : s.registered ≡ state.registered
  pub live : s.live ≡ (state.registered && state.enabled)
  pub since : s.since ≡ state.since
  pub reg : s.reg ≡ state.reg
  pub filter : s.pair.filter ≡ state.filter
  pub notrace : s.pair.notrace ≡ state.notrace

-- the users of a job on a desk, each by its number
pub record AreUsersOf (job : Job) (d : Desk) (r : Row) : Type 0 where
  pub size : length r.users.items ≡ length job.users
  pub each : (u : ℕ) (s : Sight) → slice_get r.users.items u ≡ Some s → IsSightOf (user_at d u) s

-- what is kept of a desk of a job
pub record IsDeskOf (job : Job) (d : Desk) (r : Row) : Type 0 where
  pub users : AreUsersOf job d r
  pub allowed : (t : ℕ) → t < length job.tasks → (bit_at r.allowed t == 1) ≡ is_allowed d t
  pub depth : r.depth ≡ d.depth
  pub runs : r.runs.items ≡ map (target d) (range_with_len 0 (funcs job))

-- the same of a desk as the program has it
pub record IsRowOfView (s : DeskView) (r : Row) : Type 0 where
  pub size : length r.users.items ≡ length s.declared.specs
  pub each : (u : ℕ) (x : Sight) → slice_get r.users.items u ≡ Some x → IsSightOf (user_at s.state u) x
  pub allowed : (t : ℕ) → t < s.declared.tasks → (bit_at r.allowed t == 1) ≡ is_allowed s.state t
  pub depth : r.depth ≡ s.state.depth
  pub runs : r.runs.items ≡ map (target s.state) (range_with_len 0 s.declared.funcs)

-- the row after k commands
pub record IsRowOf (job : Job) (k : ℕ) (r : Row) : Type 0 where
  pub desk' : IsDeskOf job (desk job k) r
  pub answer : r.answer ≡ answer_of job k
  pub off : option_map (λ u. u.0) r.off ≡ taken_off job k

-- the rows of a job: one before any command, and one after each command
pub record AreRowsOf (job : Job) (rows : List Row) : Type 0 where
  pub size : length rows ≡ suc (length (commands job))
  pub each : (k : ℕ) (r : Row) → slice_get rows k ≡ Some r → IsRowOf job k r

-- the desks of a job, which names what it has, and has no more tasks and acts than a script may have
pub record AreOf (job : Job) (d : Desks) : Type 0 where
  pub named : IsWellFormed job
  pub few : length job.tasks ≤ TASKS
  pub acts : sum_by (λ t. length t.acts) job.tasks ≤ ACTS
  pub users : d.users ≡ length job.users
  pub rows : AreRowsOf job d.rows.items

-- a user was off at a function at some command from one on, up to another
abbrev pub WasOff : Job → ℕ → ℕ → ℕ → ℕ → Type 0
WasOff job from last u f = (k : ℕ) × (from ≤ k) × (k ≤ last) × (is_on (desk job k) u f ≡ false)
