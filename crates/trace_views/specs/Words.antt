-- Words that the printed texts share: names, pids and CPUs by number, and columns.
use Rattle.std.specs.Prelude.{ℕ, zero, suc, Bool, true, false, ◌-◌, List, [], ◌∷◌, ◌++◌, length, replicate, get_or, slice_get, codes, Option, None, if◌then◌else◌}
use Rattle.ft_base.specs.declared.user.Kind.{Kind}
use Rattle.ft_base.specs.declared.user.Kind.TheVariants.{Graph, Profile}
use Rattle.ft_base.specs.declared.item.Item.{Item}
use Rattle.ft_base.specs.Job.{Job, no_task, no_func}
use Rattle.ft_base.specs.Desk.{spec_at}

-- the bytes of a word
abbrev pub Word : Type 0
Word = List ℕ

-- the name of a function, empty for a number that the job doesn't have
abbrev pub function_word : Job → ℕ → Word
function_word job f = (get_or job.functions f no_func).name

-- the name of a user, empty for a number that the job doesn't have
abbrev pub user_word : Job → ℕ → Word
user_word job u = (spec_at job u).name

-- the pid of a task, 0 for a number that the job doesn't have
abbrev pub pid_at : Job → ℕ → ℕ
pid_at job t = (get_or job.tasks t no_task).pid

-- the CPU of a task, 0 for a number that the job doesn't have
abbrev pub cpu_at : Job → ℕ → ℕ
cpu_at job t = (get_or job.tasks t no_task).cpu

-- the lane of a command, which is numbered from 1: nothing if the job has no lanes
abbrev pub lane_at : Job → ℕ → Option ℕ
lane_at job zero = None
lane_at job (suc n) = slice_get job.lines.lanes n

-- the line with the name of a user, whose lines follow
unfoldable pub user_line : Word → List ℕ
user_line name = codes "# user " ++ (name ++ codes "\n")

-- the last line, which says whether every actor is at its end
abbrev pub last_line : Bool → List ℕ
last_line ended = if ended then codes "end\n" else codes "stopped\n"

-- ## columns

-- this many spaces
abbrev pub spaces : ℕ → List ℕ
spaces n = replicate n 32

-- a word at the right of a column, which a longer word exceeds
abbrev pub right_in : ℕ → Word → List ℕ
right_in width word = spaces (width - length word) ++ word

-- a number's digits with zeros before them, up to this many places
abbrev pub zeros_in : ℕ → Word → List ℕ
zeros_in width digits = replicate (width - length digits) 48 ++ digits

-- ## one text after the other

-- the texts of lines, in order
abbrev pub lines_text : {L : Type 0} → (L → List ℕ) → List L → List ℕ
lines_text text [] = []
lines_text text (line ∷ lines) = text line ++ lines_text text lines

-- the texts of the items of a history, in order; each is told the items before it, the latest first, and those after it
abbrev pub item_texts : (List Item → Item → List Item → List ℕ) → List Item → List Item → List ℕ
item_texts text past [] = []
item_texts text past (item ∷ rest) = text past item rest ++ item_texts text (item ∷ past) rest

-- the texts of users, CPUs or triggers from a number on, in order; each is told its number and itself
abbrev pub numbered_texts : {A : Type 0} → (ℕ → A → List ℕ) → ℕ → List A → List ℕ
numbered_texts text n [] = []
numbered_texts text n (x ∷ rest) = text n x ++ numbered_texts text (suc n) rest

-- ## kinds of users

-- the kind `graph`
abbrev pub is_graph : Kind → Bool
is_graph Graph = true
is_graph _ = false

-- the kind `profile`
abbrev pub is_profile : Kind → Bool
is_profile Profile = true
is_profile _ = false
