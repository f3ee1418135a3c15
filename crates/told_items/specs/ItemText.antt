-- The items of a history as JSON, an object a line.
use Rattle.std.specs.Prelude.{ℕ, Bool, true, false, not, ◌&&◌, List, [], ◌∷◌, ◌++◌, length, reverse, codes, Option, Some, None, if◌then◌else◌}
use Rattle.std.specs.Fmt.{decimal}
use Rattle.std.specs.List.{find, list_any}
use Rattle.ft_base.specs.declared.number.CallNo.{CallNo}
use Rattle.ft_base.specs.declared.context.Ctx.{Ctx}
use Rattle.ft_base.specs.declared.user.Kind.{Kind}
use Rattle.ft_base.specs.declared.user.Kind.TheVariants.{Function, Graph, Fprobe, Profile}
use Rattle.ft_base.specs.declared.item.Item.{Item}
use Rattle.ft_base.specs.declared.item.Item.TheVariants.{Begin, Return, Enter, Back, BackEnd, Refuse, Miss, Body, Leave, Exit, ExitEnd, Ret}
use Rattle.ft_base.specs.declared.item.Ran.{Ran}
use Rattle.ft_base.specs.declared.item.Ran.TheVariants.{Nop, List as ByList, Own}
use Rattle.ft_base.specs.declared.item.Answer.{Answer}
use Rattle.ft_base.specs.declared.item.Answer.TheVariants.{Accepted, Already, NotThere, Invalid, NoMatch, Busy}
use Rattle.ft_base.specs.Desk.{spec_at}
use Rattle.ft_base.specs.Job.{Job}
use Rattle.trace_views.specs.LogText.{call_word, context_word, reason_word}
use Rattle.trace_views.specs.Words.{Word, function_word, user_word, pid_at, cpu_at, lane_at, item_texts}
use Rattle.told_items.specs.declared.told.Opened.{Opened}
use Rattle.told_items.specs.declared.told.Owed.{Owed}
use Rattle.told_items.specs.Fields.{Field, text, number, fields_text}
use Rattle.told_items.specs.Open.{opened, is_call, owed, is_owed_to}

-- ## fields

-- a user's kind
abbrev pub kind_word : Kind → Word
kind_word Function = codes "function"
kind_word Graph = codes "graph"
kind_word (Fprobe exit cancel) = codes "fprobe"
kind_word Profile = codes "profile"

-- a call, with its task and the task's CPU
abbrev pub call_fields : Job → CallNo → List Field
call_fields job call =
    number (codes "pid") (pid_at job call.task.0) ∷ number (codes "cpu") (cpu_at job call.task.0) ∷ text (codes "call") (call_word job call) ∷ []

-- what the Enter of a call tells
abbrev pub entered_fields : Job → Ctx → ℕ → List Field
entered_fields job ctx f = text (codes "context") (context_word ctx) ∷ text (codes "function") (function_word job f) ∷ []

-- what the Enter of an open call told; nothing of a call that isn't open
abbrev pub opened_fields : Job → Option Opened → List Field
opened_fields job None = []
opened_fields job (Some o) = entered_fields job o.ctx o.func.0

-- a user, with its kind
abbrev pub user_fields : Job → ℕ → List Field
user_fields job u = text (codes "user") (user_word job u) ∷ text (codes "user_kind") (kind_word (spec_at job u).kind) ∷ []

-- the enclosing call, null at the outermost level
abbrev pub caller_field : Job → Option CallNo → Field
caller_field job None = record { name = codes "caller"; value = codes "null" }
caller_field job (Some call) = text (codes "caller") (call_word job call)

-- the lane of a command, if it has one
abbrev pub lane_fields : Option ℕ → List Field
lane_fields None = []
lane_fields (Some lane) = number (codes "lane") lane ∷ []

-- the answer of a command; a busy one has the function and the user that replaces it
abbrev pub answer_fields : Job → Answer → List Field
answer_fields job Accepted = text (codes "answer") (codes "ok") ∷ []
answer_fields job Already = text (codes "answer") (codes "already") ∷ []
answer_fields job NotThere = text (codes "answer") (codes "not-there") ∷ []
answer_fields job Invalid = text (codes "answer") (codes "invalid") ∷ []
answer_fields job NoMatch = text (codes "answer") (codes "no-match") ∷ []
answer_fields job (Busy f u) =
    text (codes "answer") (codes "busy") ∷ text (codes "function") (function_word job f.0) ∷ text (codes "user") (user_word job u.0) ∷ []

-- what was fetched at a call site; of a user's own trampoline that user
abbrev pub ran_fields : Job → Ran → List Field
ran_fields job Nop = text (codes "ran") (codes "nop") ∷ []
ran_fields job ByList = text (codes "ran") (codes "list") ∷ []
ran_fields job (Own u) = text (codes "ran") (codes "own") ∷ user_fields job u.0

-- what stands before an element of a list, the first or another
abbrev pub comma : Bool → List ℕ
comma is_first = if is_first then [] else codes ", "

-- the place of the entry callback of an owed exit, if it is owed to this call
abbrev pub place_text : Bool → CallNo → Owed → List ℕ
place_text is_first call o = if is_owed_to call o then comma is_first ++ decimal o.place else []

-- the places of the entry callbacks whose exits are owed to a call
abbrev pub places_after : Bool → CallNo → List Owed → List ℕ
places_after is_first call [] = []
places_after is_first call (o ∷ rest) = place_text is_first call o ++ places_after (is_first && not (is_owed_to call o)) call rest

-- a list of them
abbrev pub places : CallNo → List Owed → List ℕ
places call exits = codes "[" ++ (places_after true call exits ++ codes "]")

-- the exits that a call's return leaves out, if there are some
abbrev pub lost_fields : CallNo → List Owed → List Field
lost_fields call exits = if list_any (is_owed_to call) exits then record { name = codes "lost"; value = places call exits } ∷ [] else []

-- an open call with the places of what is owed to it
abbrev pub open_text : Job → List Owed → CallNo → List ℕ
open_text job exits call = codes "{\"call\": \"" ++ (call_word job call ++ (codes "\", \"owed\": " ++ (places call exits ++ codes "}")))

-- open calls
abbrev pub calls_after : Job → List Owed → Bool → List Opened → List ℕ
calls_after job exits is_first [] = []
calls_after job exits is_first (o ∷ rest) = comma is_first ++ (open_text job exits o.call ++ calls_after job exits false rest)

-- the calls that are open, if there are some
abbrev pub open_fields : Job → List Opened → List Owed → List Field
open_fields job [] exits = []
open_fields job (o ∷ rest) exits = record { name = codes "open"; value = codes "[" ++ (calls_after job exits true (o ∷ rest) ++ codes "]") } ∷ []

-- ## lines

-- a call, with what its Enter told if it is one of these open ones
abbrev pub call_with : Job → List Opened → CallNo → List Field
call_with job calls call = call_fields job call ++ opened_fields job (find (is_call call) calls)

-- the same with a user
abbrev pub visit_with : Job → List Opened → CallNo → ℕ → List Field
visit_with job calls call u = call_with job calls call ++ user_fields job u

-- an item, before which these calls are open and these exits are owed
abbrev pub item_fields : Job → List Opened → List Owed → Item → List Field
item_fields job calls exits (Begin k) = text (codes "item") (codes "begin") ∷ number (codes "command") k ∷ lane_fields (lane_at job k)
item_fields job calls exits (Return k answer) =
    text (codes "item") (codes "return") ∷ number (codes "command") k ∷ (lane_fields (lane_at job k) ++ answer_fields job answer)
item_fields job calls exits (Enter call ctx f caller) =
    text (codes "item") (codes "enter") ∷ (call_fields job call ++ (entered_fields job ctx f.0 ++ (caller_field job caller ∷ [])))
item_fields job calls exits (Back call u) = text (codes "item") (codes "back") ∷ visit_with job calls call u.0
item_fields job calls exits (BackEnd call u) = text (codes "item") (codes "back-end") ∷ visit_with job calls call u.0
item_fields job calls exits (Refuse call u reason) =
    text (codes "item") (codes "refuse") ∷ (visit_with job calls call u.0 ++ (text (codes "reason") (reason_word reason) ∷ []))
item_fields job calls exits (Miss call u) = text (codes "item") (codes "miss") ∷ visit_with job calls call u.0
item_fields job calls exits (Body call g ran) =
    text (codes "item") (codes "body") ∷ (call_with job calls call ++ (text (codes "body") (function_word job g.0) ∷ ran_fields job ran))
item_fields job calls exits (Leave call) = text (codes "item") (codes "leave") ∷ call_with job calls call
item_fields job calls exits (Exit call u entry) =
    text (codes "item") (codes "exit") ∷ (visit_with job calls call u.0 ++ (number (codes "entry") entry ∷ []))
item_fields job calls exits (ExitEnd call u) = text (codes "item") (codes "exit-end") ∷ visit_with job calls call u.0
item_fields job calls exits (Ret call to) =
    text (codes "item") (codes "ret") ∷ (call_with job calls call ++ (caller_field job to ∷ lost_fields call exits))

-- the line of an item, after items of a job, the latest first: its place, and its fields
unfoldable pub told_line : Job → List Item → Item → List ℕ
told_line job past item = codes "{\"place\": " ++ (decimal (length past) ++ (fields_text (item_fields job (opened past) (owed job past) item) ++ codes "}\n"))

-- how a log ends
abbrev pub end_word : Bool → Word
end_word ended = if ended then codes "end" else codes "stopped"

-- the last line, after all items, the latest first: how the log ends, how many items there are, and what is open
unfoldable pub told_last : Job → List Item → Bool → List ℕ
told_last job past ended =
    codes "{\"last\": \"" ++ (end_word ended ++ (codes "\", \"items\": " ++ (decimal (length past) ++ (fields_text (open_fields job (opened past) (owed job past)) ++ codes "}\n"))))

-- the lines of items of a job, in order
abbrev pub told_lines : Job → List Item → List ℕ
told_lines job items = item_texts (λ past item rest. told_line job past item) [] items

-- the text of a history of a job
abbrev pub told_text : Job → List Item → Bool → List ℕ
told_text job items ended = told_lines job items ++ told_last job (reverse items) ended
