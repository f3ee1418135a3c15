-- The text of a history, form function: a line for each entry callback of a function tracer (ftrace.rst, Output format).
use Rattle.std.specs.Prelude.{ℕ, Bool, List, [], ◌∷◌, ◌++◌, length, codes, Option, Some, None, if◌then◌else◌}
use Rattle.std.specs.Fmt.{decimal}
use Rattle.ft_base.specs.declared.number.CallNo.{CallNo}
use Rattle.ft_base.specs.declared.context.Ctx.{Ctx}
use Rattle.ft_base.specs.declared.context.Ctx.TheVariants.{Normal, Softirq, Irq, Nmi}
use Rattle.ft_base.specs.declared.item.Item.{Item}
use Rattle.ft_base.specs.declared.item.Item.TheVariants.{Back, Body}
use Rattle.ft_base.specs.Same.{same_call}
use Rattle.ft_base.specs.Job.{Job}
use Rattle.ft_base.specs.Desk.{spec_at}
use Rattle.ft_hist.specs.Past.{entry_of}
use Rattle.trace_views.specs.Words.{function_word, user_word, pid_at, cpu_at, last_line, right_in, zeros_in, item_texts}
use Rattle.ft_base.specs.Kinds.{is_function}

-- a context, in the column of the flags of an interrupt
abbrev pub context_letter : Ctx → List ℕ
context_letter Normal = codes "."
context_letter Softirq = codes "s"
context_letter Irq = codes "h"
context_letter Nmi = codes "z"

-- the function whose body the call runs, if its Body has come
abbrev pub body_of : CallNo → List Item → Option ℕ
body_of call [] = None
body_of call (Body c g ran ∷ past) = if same_call c call then Some g.0 else body_of call past
body_of call (_ ∷ past) = body_of call past

-- what a call is in: the function of its Body, or the called function if its Body hasn't come yet
abbrev pub running : CallNo → List Item → ℕ
running call past = by_body (body_of call past)
  where
    by_body : Option ℕ → ℕ
    by_body None = (entry_of call past).func
    by_body (Some g) = g

-- the caller's function, or `root` at the outermost level
abbrev pub parent_word : Job → List Item → Option CallNo → List ℕ
parent_word job past None = codes "root"
parent_word job past (Some caller) = function_word job (running caller past)

-- the line of an entry callback
unfoldable pub function_line : Job → List Item → CallNo → ℕ → List ℕ
function_line job past call u =
    right_in 7 (decimal (pid_at job call.task.0)) ++ (codes " [" ++ (zeros_in 3 (decimal (cpu_at job call.task.0)) ++ (codes "] "
    ++ (context_letter (entry_of call past).ctx ++ (codes " " ++ (right_in 8 (decimal (length past)) ++ (codes ": "
    ++ (function_word job (entry_of call past).func ++ (codes " <-" ++ (parent_word job past (entry_of call past).caller
    ++ (codes " (" ++ (user_word job u ++ codes ")\n"))))))))))))

-- what an item prints
abbrev pub function_part : Job → List Item → Item → List Item → List ℕ
function_part job past (Back call u) rest = if is_function (spec_at job u.0).kind then function_line job past call u.0 else []
function_part job past _ rest = []

-- the text
unfoldable pub function_text : Job → List Item → Bool → List ℕ
function_text job items ended = item_texts (function_part job) [] items ++ last_line ended
