-- The pid list and the nopid list as sets of tasks, and what they allow (ftrace.rst, The File System: set_ftrace_pid).
use Rattle.std.specs.Prelude.{ℕ, Bool, ◌==◌, [], map}
use Rattle.std.specs.List.{range_with_len}
use Rattle.std.specs.Int.{bit_at}
use Rattle.ft_base.specs.Marks.{Marks}
use Rattle.ft_base.specs.Desk.{is_allowed}

-- the tasks that alone are traced, if there are any, and the tasks that are not
pub record PidLists : Type 0 where
  pub pids : Marks
  pub nopids : Marks

-- the set of the tasks, of this many, that have a bit in a mask; further bits say nothing
abbrev pub tasks_in : ℕ → ℕ → Marks
tasks_in tasks mask = map (λ t. bit_at mask t == 1) (range_with_len 0 tasks)

-- a task is allowed on a desk that has these lists
abbrev pub allows : PidLists → ℕ → Bool
allows lists t = is_allowed (record { users = []; pids = lists.pids; nopids = lists.nopids; depth = 0 }) t
