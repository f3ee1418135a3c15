-- The waits of a task's script.
use Rattle.std.specs.Prelude.{ℕ, ◌≡◌, ◌<◌, ◌≤◌, List, Some, get_or, slice_get}
use Rattle.ft_base.specs.declared.item.Item.{Item}
use Rattle.ft_base.specs.declared.task.TaskAct.TheVariants.{After}
use Rattle.ft_base.specs.Job.{Job, no_task}
use Rattle.ft_hist.specs.Finished.{acts_done}
use Rattle.ft_hist.specs.Past.{done}

-- each act `after n` among those that the task has done is met: n commands have returned
abbrev pub AreAftersMet : Job → ℕ → List Item → Type 0
AreAftersMet job t past =
    (i n : ℕ) → i < acts_done job t past → slice_get (get_or job.tasks t no_task).acts i ≡ Some (After n) → n ≤ done past
