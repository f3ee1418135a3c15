-- The facts of control: of each command its line, its answer, and what it changes on the desk; and the waits.
use Rattle.std.specs.Prelude.{ℕ, suc, Bool, true, false, ◌==◌, List, [], ◌∷◌, ◌++◌, codes, drop, length, Option, Some, None, option_map, slice_get, if◌then◌else◌}
use Rattle.std.specs.Fmt.{decimal}
use Rattle.std.specs.List.{find}
use Rattle.ft_base.specs.declared.item.Answer.{Answer}
use Rattle.ft_base.specs.declared.item.Ran.{Ran}
use Rattle.ft_base.specs.declared.item.Ran.TheVariants.{Nop, List as ByList, Own}
use Rattle.ft_base.specs.Desk.{Desk, answer_at, desk, target, user_at}
use Rattle.ft_base.specs.Job.{Job, Command, Register, Unregister, Filter, Notrace, Pid, NoPid, Enable, Disable, MaxDepth, Ctl, Run, Until, ModuleRow, funcs, user_of}
use Rattle.ft_base.specs.Marks.{Marks, holds}
use Rattle.trace_views.specs.LogText.{answer_words, joined, ran_words}
use Rattle.trace_views.specs.ModulesText.{module_word}
use Rattle.trace_views.specs.Words.{Word, lane_at, pid_at, user_word}
use Rattle.told_items.specs.Fields.{Field, number, text, quoted, field_text, fields_text}
use Rattle.told_facts.specs.Lines.{SaidLine}
use Rattle.told_facts.specs.Values.{list_of, optional, words_after}

-- names of modules, each after a space
abbrev pub modules_after : Job → List ℕ → List ℕ
modules_after job [] = []
modules_after job (m ∷ modules) = codes " " ++ (module_word job m ++ modules_after job modules)

-- the text of a command: its line but for the key `ctl`; of one that hides modules before the first line these
abbrev pub said_text : Job → Option SaidLine → List ℕ
said_text job None = codes "hides" ++ modules_after job job.lines.absent
said_text job (Some line) = words_after true (drop 1 line.words)

-- the fields of a command's line
abbrev pub line_fields : Job → Option SaidLine → List Field
line_fields job line = optional (λ (l : SaidLine). decimal l.number) (codes "line") line ∷ text (codes "text") (said_text job line) ∷ []

-- what a command does
abbrev pub does : Command → Word
does (Register u) = codes "register"
does (Unregister u) = codes "unregister"
does (Filter u e) = codes "filter"
does (Notrace u e) = codes "notrace"
does (Pid pids) = codes "pid"
does (NoPid nopids) = codes "nopid"
does (Enable u) = codes "enable"
does (Disable u) = codes "disable"
does (MaxDepth depth) = codes "maxdepth"

-- an answer, as the log has it
abbrev pub answer_text : Job → Answer → Word
answer_text job answer = joined (answer_words job answer)

-- the answer of the line that loads or unloads a module, if this is its last command
abbrev pub line_answer : Job → ℕ → Option Word
line_answer job k = option_map (λ (row : ModuleRow). answer_text job row.answer) (find (λ (row : ModuleRow). row.last == k) job.lines.modules)

-- the set of functions that a command edits, as it is on this desk
abbrev pub set_after : Desk → Command → Option Marks
set_after now (Filter u e) = Some (user_at now u).filter
set_after now (Notrace u e) = Some (user_at now u).notrace
set_after now _ = None

-- a function's number, if it is in this set
abbrev pub member : Marks → ℕ → Option (List ℕ)
member set f = if holds set f then Some (decimal f) else None

-- two sites have the same target
abbrev pub same_target : Ran → Ran → Bool
same_target Nop Nop = true
same_target ByList ByList = true
same_target (Own u) (Own v) = u.0 == v.0
same_target _ _ = false

-- a function's number and its site's target
abbrev pub site_text : Job → ℕ → Ran → List ℕ
site_text job f ran = codes "[" ++ (decimal f ++ (codes ", \"" ++ (joined (ran_words job ran) ++ codes "\"]")))

-- a function's site, if it has another target than before
abbrev pub new_site : Job → ℕ → Ran → Ran → Option (List ℕ)
new_site job f was is = if same_target was is then None else Some (site_text job f is)

-- the site of a function, if it has another target on the second desk than on the first
abbrev pub changed_site : Job → Desk → Desk → ℕ → Option (List ℕ)
changed_site job old new f = new_site job f (target old f) (target new f)

-- the fields of the k-th command, from 0, that come after those of its line: with its answer, the desk before it and that after it
abbrev pub later_fields : Job → ℕ → Command → Answer → Desk → Desk → List Field
later_fields job k c answer old new =
    optional decimal (codes "lane") (lane_at job (suc k))
    ∷ text (codes "does") (does c)
    ∷ optional (λ u. quoted (user_word job u)) (codes "user") (user_of c)
    ∷ text (codes "answer") (answer_text job answer)
    ∷ optional quoted (codes "line_answer") (line_answer job (suc k))
    ∷ optional (λ set. list_of (member set) (length set)) (codes "set") (set_after new c)
    ∷ record { name = codes "sites"; value = list_of (changed_site job old new) (funcs job) }
    ∷ []

-- all its fields
abbrev pub command_fields : Job → ℕ → Command → Option SaidLine → Answer → Desk → Desk → List Field
command_fields job k c line answer old new = number (codes "number") (suc k) ∷ (line_fields job line ++ later_fields job k c answer old new)

-- its line
unfoldable pub command_text : Job → ℕ → Command → Option SaidLine → Answer → Desk → Desk → List ℕ
command_text job k c line answer old new = codes "{\"fact\": \"command\"" ++ (fields_text (command_fields job k c line answer old new) ++ codes "}\n")

-- the line of a wait for so many acts of a task
abbrev pub wait_text : Job → ℕ → ℕ → List ℕ
wait_text job t acts =
    codes "{\"fact\": \"wait\"" ++ (field_text (number (codes "pid") (pid_at job t)) ++ (field_text (number (codes "acts") acts) ++ codes "}\n"))

-- the lines of a job's control from here on, below k commands
abbrev pub controls_from : Job → (ℕ → Option SaidLine) → ℕ → List Ctl → List ℕ
controls_from job line k [] = []
controls_from job line k (Run c ∷ ctls) =
    command_text job k c (line k) (answer_at job k c) (desk job k) (desk job (suc k)) ++ controls_from job line (suc k) ctls
controls_from job line k (Until t acts ∷ ctls) = wait_text job t acts ++ controls_from job line k ctls

-- those of all its control, if the commands, by their numbers from 0, are of these lines
abbrev pub controls_text : Job → (ℕ → Option SaidLine) → List ℕ
controls_text job line = controls_from job line 0 job.ctls
