-- The open calls as they are kept: what each runs, by task. And the lines of the form function.
use Rattle.std.specs.Prelude.{ℕ, ◌≡◌, ◌+◌, ◌*◌, ◌<◌, ◌≤◌, List, ◌++◌, map, length, reverse, get_or, slice_get, vec_capacity, codes, Option, Some, None, option_map}
use Rattle.std.specs.Fmt.{decimal}
use Rattle.ft_base.specs.declared.number.CallNo.{CallNo}
use Rattle.ft_base.specs.declared.number.FuncNo.{FuncNo}
use Rattle.ft_base.specs.declared.item.Item.{Item}
use Rattle.ft_base.specs.Job.{Job}
use Rattle.ft_base.specs.Versions.{levels}
use Rattle.ft_hist.specs.Past.{entry_of}
use Rattle.ft_hist.specs.Telling.{open_calls}
use Rattle.trace_views.specs.declared.function.FunctionLine.{FunctionLine}
use Rattle.trace_views.specs.declared.open_calls.OpenCall.{OpenCall}
use Rattle.trace_views.specs.declared.open_calls.OpenCalls.{OpenCalls}
use Rattle.history_laws.specs.Bound.{calls_of}
use Rattle.trace_views.specs.FunctionText.{body_of, context_letter}
use Rattle.trace_views.specs.TaskStacks.{stack_at}
use Rattle.trace_views.specs.Words.{function_word, user_word, pid_at, cpu_at, right_in, zeros_in}

-- a function by number
abbrev pub func_no : ℕ → FuncNo
func_no f = record { 0 = f }

-- an open call: what its Enter and its Body tell
abbrev pub open_call_of : List Item → CallNo → OpenCall
open_call_of past call = record {
  ctx = (entry_of call past).ctx;
  func = func_no (entry_of call past).func;
  body = option_map func_no (body_of call past);
}

-- the stacks have the open calls of each task of the job
pub record HasOpenCalls (job : Job) (past : List Item) (stacks : List (List OpenCall)) : Type 0 where
  pub tasks : length stacks ≡ length job.tasks
  pub calls : (t : ℕ) → stack_at stacks t ≡ map (open_call_of past) (open_calls t past)

-- the stacks that are kept, each with its top first
abbrev pub stacks_in : OpenCalls → List (List OpenCall)
stacks_in open' = map (λ v. reverse v.items) open'.tasks.items

-- how many calls each has room for
abbrev pub rooms_in : OpenCalls → List ℕ
rooms_in open' = map (λ v. vec_capacity v) open'.tasks.items

-- it has followed these items of a job, the latest first: it has the open calls of each task, and room for as many as the task can have open
pub record IsFollowed (job : Job) (past : List Item) (open' : OpenCalls) : Type 0 where
  pub stacks : HasOpenCalls job past (stacks_in open')
  pub rooms : (t : ℕ) → t < length job.tasks → calls_of job t + 2 * levels job ≤ get_or (rooms_in open') t 0

-- what an open call is in: the function of its Body, or the called function if its Body hasn't come yet
abbrev pub runs : OpenCall → FuncNo
runs call = by_body call.body
  where
    by_body : Option FuncNo → FuncNo
    by_body None = call.func
    by_body (Some g) = g

-- what the latest of the open calls of a task is called from: what the call below it is in, none if there is none
abbrev pub parent_of : List OpenCall → Option FuncNo
parent_of stack = option_map runs (slice_get stack 1)

-- ## a line

-- what the call of a line is called from: a function, or `root` if no other call is open
abbrev pub parent_name : Job → Option FuncNo → List ℕ
parent_name job None = codes "root"
parent_name job (Some f) = function_word job f.0

-- a line up to its place
abbrev pub line_front : Job → FunctionLine → List ℕ
line_front job line =
    right_in 7 (decimal (pid_at job line.task.0)) ++ (codes " [" ++ (zeros_in 3 (decimal (cpu_at job line.task.0)) ++ (codes "] "
    ++ (context_letter line.ctx ++ (codes " " ++ (right_in 8 (decimal line.place) ++ codes ": "))))))

-- what comes after its place
abbrev pub line_call : Job → FunctionLine → List ℕ
line_call job line =
    function_word job line.func.0 ++ (codes " <-" ++ (parent_name job line.parent ++ (codes " (" ++ (user_word job line.user.0 ++ codes ")\n"))))

-- the text of a line
unfoldable pub function_line_text : Job → FunctionLine → List ℕ
function_line_text job line = line_front job line ++ line_call job line
