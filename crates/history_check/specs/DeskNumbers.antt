-- What is kept of a desk beside its users' sets.
use Rattle.std.specs.Prelude.{◌≡◌, ℕ, ◌≤◌, length, get_or, if◌then◌else◌}
use Rattle.ft_base.specs.declared.item.Answer.{Answer}
use Rattle.ft_base.specs.Desk.{Desk, changed, is_accepted, user_at}
use Rattle.ft_base.specs.Job.{Command, Job}
use Rattle.history_check.specs.declared.numbers.Numbers.{Numbers}

-- after n commands it is what a desk with so many tasks has
pub record AreNumbersOf (tasks : ℕ) (d : Desk) (n : ℕ) (t : Numbers) : Type 0 where
  pub tasks' : (length d.pids ≡ tasks) × (length d.nopids ≡ tasks)
  pub size : length t.regs.items ≡ length d.users
  pub regs : (u : ℕ) → get_or t.regs.items u 0 ≡ (user_at d u).reg
  pub few : (u : ℕ) → get_or t.regs.items u 0 ≤ n
  pub pids : t.pids ≡ record { pids = d.pids; nopids = d.nopids }
  pub depth : t.depth ≡ d.depth

-- the desk after the k-th command, which was answered so
abbrev pub desk_after : Job → Desk → ℕ → Answer → Command → Desk
desk_after job d k answer c = if is_accepted answer then changed job d k c else d
