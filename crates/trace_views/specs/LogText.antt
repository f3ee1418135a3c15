-- The text of a history, form log.
use Rattle.std.specs.Prelude.{ℕ, suc, Bool, List, [], ◌∷◌, ◌++◌, codes, Option, Some, None}
use Rattle.std.specs.Fmt.{decimal}
use Rattle.ft_base.specs.declared.number.CallNo.{CallNo}
use Rattle.ft_base.specs.declared.context.Ctx.{Ctx}
use Rattle.ft_base.specs.declared.context.Ctx.TheVariants.{Normal, Softirq, Irq, Nmi}
use Rattle.ft_base.specs.declared.item.Item.{Item}
use Rattle.ft_base.specs.declared.item.Item.TheVariants.{Begin, Return, Enter, Back, BackEnd, Refuse, Miss, Body, Leave, Exit, ExitEnd, Ret}
use Rattle.ft_base.specs.declared.item.Ran.{Ran}
use Rattle.ft_base.specs.declared.item.Ran.TheVariants.{Nop, List as ByList, Own}
use Rattle.ft_base.specs.declared.item.Reason.{Reason}
use Rattle.ft_base.specs.declared.item.Reason.TheVariants.{Pid, Recursion, Depth}
use Rattle.ft_base.specs.declared.item.Answer.{Answer}
use Rattle.ft_base.specs.declared.item.Answer.TheVariants.{Accepted, Already, NotThere, Invalid, NoMatch, Busy}
use Rattle.ft_base.specs.Job.{Job}
use Rattle.trace_views.specs.Words.{Word, function_word, user_word, pid_at, lane_at, last_line}

-- a call: the pid of its task, a dot and its number
abbrev pub call_word : Job → CallNo → Word
call_word job call = decimal (pid_at job call.task.0) ++ (codes "." ++ decimal call.n)

-- the enclosing call, or `-` at the outermost level
abbrev pub caller_word : Job → Option CallNo → Word
caller_word job None = codes "-"
caller_word job (Some call) = call_word job call

-- a context
abbrev pub context_word : Ctx → Word
context_word Normal = codes "normal"
context_word Softirq = codes "softirq"
context_word Irq = codes "irq"
context_word Nmi = codes "nmi"

-- the reason of a refusal
abbrev pub reason_word : Reason → Word
reason_word Pid = codes "pid"
reason_word Recursion = codes "recursion"
reason_word Depth = codes "depth"

-- what was fetched at a call site
abbrev pub ran_words : Job → Ran → List Word
ran_words job Nop = codes "nop" ∷ []
ran_words job ByList = codes "list" ∷ []
ran_words job (Own u) = codes "own" ∷ user_word job u.0 ∷ []

-- the answer of a command; a busy one names the function and the user that replaces it
abbrev pub answer_words : Job → Answer → List Word
answer_words job Accepted = codes "ok" ∷ []
answer_words job Already = codes "already" ∷ []
answer_words job NotThere = codes "not-there" ∷ []
answer_words job Invalid = codes "invalid" ∷ []
answer_words job NoMatch = codes "no-match" ∷ []
answer_words job (Busy f u) = codes "busy" ∷ function_word job f.0 ∷ user_word job u.0 ∷ []

-- the lane of a command, if it has one
abbrev pub lane_words : Option ℕ → List Word
lane_words None = []
lane_words (Some lane) = codes "lane" ∷ decimal lane ∷ []

-- the words of an item, after its place
abbrev pub item_words : Job → Item → List Word
item_words job (Begin k) = codes "begin" ∷ decimal k ∷ lane_words (lane_at job k)
item_words job (Return k answer) = codes "return" ∷ decimal k ∷ answer_words job answer
item_words job (Enter call ctx f caller) = codes "enter" ∷ call_word job call ∷ context_word ctx ∷ function_word job f.0 ∷ caller_word job caller ∷ []
item_words job (Back call u) = codes "back" ∷ call_word job call ∷ user_word job u.0 ∷ []
item_words job (BackEnd call u) = codes "back-end" ∷ call_word job call ∷ user_word job u.0 ∷ []
item_words job (Refuse call u reason) = codes "refuse" ∷ call_word job call ∷ user_word job u.0 ∷ reason_word reason ∷ []
item_words job (Miss call u) = codes "miss" ∷ call_word job call ∷ user_word job u.0 ∷ []
item_words job (Body call g ran) = codes "body" ∷ call_word job call ∷ function_word job g.0 ∷ ran_words job ran
item_words job (Leave call) = codes "leave" ∷ call_word job call ∷ []
item_words job (Exit call u entry) = codes "exit" ∷ call_word job call ∷ user_word job u.0 ∷ decimal entry ∷ []
item_words job (ExitEnd call u) = codes "exit-end" ∷ call_word job call ∷ user_word job u.0 ∷ []
item_words job (Ret call to) = codes "ret" ∷ call_word job call ∷ caller_word job to ∷ []

-- words with a space between them
abbrev pub joined : List Word → List ℕ
joined [] = []
joined (word ∷ []) = word
joined (word ∷ next ∷ words) = word ++ (codes " " ++ joined (next ∷ words))

-- the line of an item at a place
unfoldable pub log_line : Job → ℕ → Item → List ℕ
log_line job p item = joined (decimal p ∷ item_words job item) ++ codes "\n"

-- the lines of items, the first of which has this place
abbrev pub log_lines : Job → ℕ → List Item → List ℕ
log_lines job p [] = []
log_lines job p (item ∷ rest) = log_line job p item ++ log_lines job (suc p) rest

-- the text of a history of a job
unfoldable pub log_text : Job → List Item → Bool → List ℕ
log_text job items ended = log_lines job 0 items ++ last_line ended
