-- The text of a history, form graph: for each graph user the calls in which it was called back, as nested blocks, with the time between its
-- callbacks at entry and at exit; an item's time is its place (ftrace.rst, function graph tracer).
use Rattle.std.specs.Prelude.{ℕ, suc, ◌*◌, ◌-◌, Bool, false, not, ◌&&◌, ◌==◌, List, [], ◌∷◌, ◌++◌, length, filter, codes, Option, Some, None, if◌then◌else◌}
use Rattle.std.specs.Fmt.{decimal}
use Rattle.ft_base.specs.declared.number.CallNo.{CallNo}
use Rattle.ft_base.specs.declared.item.Item.{Item}
use Rattle.ft_base.specs.declared.item.Item.TheVariants.{Back, Exit}
use Rattle.ft_base.specs.Same.{same_call}
use Rattle.ft_base.specs.Job.{Job, Spec}
use Rattle.ft_hist.specs.Past.{entry_of, is_open}
use Rattle.trace_views.specs.Words.{function_word, user_line, pid_at, cpu_at, last_line, spaces, right_in, item_texts, numbered_texts, is_graph}

-- ## levels

-- the calls in which the user was called back, the latest first
abbrev pub called : ℕ → List Item → List CallNo
called u [] = []
called u (Back call v ∷ past) = if v.0 == u then call ∷ called u past else called u past
called u (_ ∷ past) = called u past

-- how many other calls of the task are open in which the user was called back
abbrev pub level : ℕ → CallNo → List Item → ℕ
level u call past = length (filter (λ c. (c.task.0 == call.task.0) && not (same_call c call) && is_open c past) (called u past))

-- ## leaves: entry callbacks whose exit is the user's next callback in the task

-- a callback of user `v` in the call is one of user `u` in task `t`
abbrev pub is_here : ℕ → ℕ → ℕ → CallNo → Bool
is_here u t v call = (v == u) && (call.task.0 == t)

-- the place of the exit of the entry callback at place `entry`, if that exit is the user's first callback in the task among
-- these items, which begin at place `p`
abbrev pub leaf_exit : ℕ → ℕ → ℕ → ℕ → List Item → Option ℕ
leaf_exit u t entry p [] = None
leaf_exit u t entry p (Back call v ∷ rest) = if is_here u t v.0 call then None else leaf_exit u t entry (suc p) rest
leaf_exit u t entry p (Exit call v e ∷ rest) =
    if is_here u t v.0 call then (if e == entry then Some p else None) else leaf_exit u t entry (suc p) rest
leaf_exit u t entry p (_ ∷ rest) = leaf_exit u t entry (suc p) rest

-- the place of the user's latest callback in the task, at an entry or at an exit
abbrev pub latest : ℕ → ℕ → List Item → Option ℕ
latest u t [] = None
latest u t (Back call v ∷ past) = if is_here u t v.0 call then Some (length past) else latest u t past
latest u t (Exit call v e ∷ past) = if is_here u t v.0 call then Some (length past) else latest u t past
latest u t (_ ∷ past) = latest u t past

-- whether an exit is a leaf's: the entry callback is the user's latest callback in the task
abbrev pub ends_leaf : ℕ → CallNo → ℕ → List Item → Bool
ends_leaf u call entry past = is_place (latest u call.task.0 past)
  where
    is_place : Option ℕ → Bool
    is_place None = false
    is_place (Some p) = p == entry

-- ## lines

-- the column of a time, empty at an entry
abbrev pub time_column : Option ℕ → List ℕ
time_column None = spaces 8
time_column (Some time) = right_in 8 (decimal time)

-- a line of a task: the CPU, the pid, the time, and the text at its level
unfoldable pub graph_line : Job → ℕ → Option ℕ → ℕ → List ℕ → List ℕ
graph_line job t time lvl text =
    right_in 2 (decimal (cpu_at job t)) ++ (codes ") " ++ (right_in 7 (decimal (pid_at job t)) ++ (codes " | "
    ++ (time_column time ++ (codes " | " ++ (spaces (2 * lvl) ++ (text ++ codes "\n")))))))

-- the function of a call
abbrev pub called_word : Job → CallNo → List Item → List ℕ
called_word job call past = function_word job (entry_of call past).func

-- the line of an entry callback: a leaf has its time, and no line at its exit
abbrev pub entry_line : Job → ℕ → CallNo → List Item → Option ℕ → List ℕ
entry_line job u call past None = graph_line job call.task.0 None (level u call past) (called_word job call past ++ codes "() {")
entry_line job u call past (Some exit) =
    graph_line job call.task.0 (Some (exit - length past)) (level u call past) (called_word job call past ++ codes "();")

-- the line of an exit callback
abbrev pub exit_line : Job → ℕ → CallNo → ℕ → List Item → List ℕ
exit_line job u call entry past =
    graph_line job call.task.0 (Some (length past - entry)) (level u call past) (codes "} /* " ++ (called_word job call past ++ codes " */"))

-- what an item prints for a user
abbrev pub graph_part : Job → ℕ → List Item → Item → List Item → List ℕ
graph_part job u past (Back call v) rest =
    if v.0 == u then entry_line job u call past (leaf_exit u call.task.0 (length past) (suc (length past)) rest) else []
graph_part job u past (Exit call v entry) rest =
    if v.0 == u then (if ends_leaf u call entry past then [] else exit_line job u call entry past) else []
graph_part job u past _ rest = []

-- the lines of a user, after a line with its name; a user of another kind has none
abbrev pub user_graph : Job → List Item → ℕ → Spec → List ℕ
user_graph job items u spec =
    if is_graph spec.kind then user_line spec.name ++ item_texts (graph_part job u) [] items else []

-- the text
unfoldable pub graph_text : Job → List Item → Bool → List ℕ
graph_text job items ended = numbered_texts (user_graph job items) 0 job.users ++ last_line ended
