-- What the program keeps of a user's walk through a history, and the parts of a line.
use Rattle.std.specs.Prelude.{ℕ, ◌≡◌, ◌+◌, ◌-◌, ◌*◌, Bool, false, ◌==◌, List, [], ◌++◌, length, reverse, drop, map, get_or, codes, Option, Some, None}
use Rattle.std.specs.Fmt.{decimal}
use Rattle.ft_base.specs.declared.number.CallNo.{CallNo}
use Rattle.ft_base.specs.declared.item.Item.{Item}
use Rattle.ft_base.specs.Job.{Job}
use Rattle.ft_hist.specs.Past.{entry_of}
use Rattle.ft_hist.specs.Rules.{IsLegal}
use Rattle.ft_hist.specs.Telling.{past_at, open_calls}
use Rattle.trace_views.specs.declared.graph.GraphCall.{GraphCall}
use Rattle.trace_views.specs.declared.graph.Walk.{Walk}
use Rattle.trace_views.specs.declared.graph_line.GraphLine.{GraphLine}
use Rattle.trace_views.specs.declared.graph_line.GraphLine.TheVariants.{User, Entry, Exit}
use Rattle.trace_views.specs.Words.{function_word, user_line, user_word, pid_at, cpu_at, spaces, right_in}
use Rattle.trace_views.specs.TaskStacks.{stack_at}
use Rattle.trace_views.specs.ByTask.{IsByTask}
use Rattle.trace_views.specs.Leaves.{leaf_exits}
use Rattle.trace_views.specs.GraphText.{latest, time_column, graph_line}
use Rattle.trace_views.specs.GraphWalks.{backs_in, backs_open}

-- ## a user's walk

-- an open call
abbrev pub graph_call : ℕ → List Item → CallNo → GraphCall
graph_call u past call = record { func = record { 0 = (entry_of call past).func }; backs = backs_in u call past }

-- the open calls of a task, the latest first
abbrev pub graph_calls : ℕ → ℕ → List Item → List GraphCall
graph_calls u t past = map (graph_call u past) (open_calls t past)

-- what is kept after a past, before the rest of the items
pub record IsWalk (u tasks : ℕ) (past rest : List Item) (walk : Walk) : Type 0 where
  pub open' : IsByTask tasks [] (λ t. graph_calls u t past) walk.open
  pub levels : IsByTask tasks 0 (λ t. backs_open u t past) walk.levels.items
  pub latest' : IsByTask tasks None (λ t. latest u t past) walk.latest.items
  pub leaves : walk.leaves.items ≡ reverse (leaf_exits u (length past) rest)

-- what is kept at a place of a legal history of a job
pub record IsWalkAt (job : Job) (u place : ℕ) (items : List Item) (walk : Walk) : Type 0 where
  pub legal : IsLegal job items
  pub kept : IsWalk u (length job.tasks) (past_at place items) (drop place items) walk

-- no call
abbrev pub no_call : GraphCall
no_call = record { func = record { 0 = 0 }; backs = 0 }

-- the latest open call of a task
abbrev pub top_at : List (List GraphCall) → ℕ → GraphCall
top_at calls t = get_or (stack_at calls t) 0 no_call

-- a call with one more callback
abbrev pub with_back : GraphCall → GraphCall
with_back call = record call { backs = call.backs + 1 }

-- the next entry callback's exit, if it is a leaf, among those to come, the latest first
abbrev pub first_leaf : List (Option ℕ) → Option ℕ
first_leaf leaves = get_or (reverse leaves) 0 None

-- the time from a place to an exit
abbrev pub time_to : ℕ → Option ℕ → Option ℕ
time_to place None = None
time_to place (Some exit) = Some (exit - place)

-- whether the place is this one
abbrev pub is_at : ℕ → Option ℕ → Bool
is_at entry None = false
is_at entry (Some place) = place == entry

-- ## lines

-- a line up to its text
abbrev pub graph_front : Job → ℕ → Option ℕ → ℕ → List ℕ
graph_front job t time lvl =
    right_in 2 (decimal (cpu_at job t)) ++ (codes ") " ++ (right_in 7 (decimal (pid_at job t)) ++ (codes " | "
    ++ (time_column time ++ (codes " | " ++ spaces (2 * lvl))))))

-- the line of an entry callback; a leaf has a time
abbrev pub entry_text : Job → ℕ → ℕ → List ℕ → Option ℕ → List ℕ
entry_text job t lvl function None = graph_line job t None lvl (function ++ codes "() {")
entry_text job t lvl function (Some time) = graph_line job t (Some time) lvl (function ++ codes "();")

-- the line of an exit callback
abbrev pub exit_text : Job → ℕ → ℕ → List ℕ → ℕ → List ℕ
exit_text job t lvl function time = graph_line job t (Some time) lvl (codes "} /* " ++ (function ++ codes " */"))

-- a line
abbrev pub graph_line_text : Job → GraphLine → List ℕ
graph_line_text job (User u) = user_line (user_word job u.0)
graph_line_text job (Entry shown time) = entry_text job shown.task.0 shown.level (function_word job shown.func.0) time
graph_line_text job (Exit shown time) = exit_text job shown.task.0 shown.level (function_word job shown.func.0) time
