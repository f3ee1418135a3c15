-- How far the command under way is: which of control's stores are made, which tasks may still use what they loaded before, and what
-- a task may therefore have loaded. The rest of the rule reads control through these words alone.
use Rattle.std.specs.Prelude.{ℕ, suc, ◌≡◌, ◌-◌, ◌<◌, ◌⊎◌, Bool, true, false, nat_lt, List, sum_by, if◌then◌else◌}
use Rattle.patch_core.specs.Moves.{Move, Sync}
use Rattle.word_machine.specs.Commands.{Effect, Adds, Removes, Edits, Disables, Lists, Levels, Nothing}
use Rattle.word_machine.specs.Control.{Position, Line, Take, Copy, Select, Push, Relink, StorePids, StoreDepth, Patch, Ask, Await, Cpus, Tasks, Release, Close}

-- whether a command waits for quiet points
abbrev pub waits : Effect → Bool
waits Removes = true
waits Edits = true
waits Disables = true
waits Lists = true
waits Levels = true
waits _ = false

-- a command is under way
abbrev pub underway : Position → Bool
underway Line = false
underway _ = true

-- how many commands have begun
abbrev pub begun_at : Position → ℕ → ℕ
begun_at p d = if underway p then suc d else d

-- ## which of control's stores are made: each flips once in a command, at its own store, or at the Begin if the command has none

-- the user's state
abbrev pub selected : Position → Bool
selected Line = false
selected Take = false
selected (Copy half w) = false
selected Select = false
selected _ = true

-- the list of users
abbrev pub listed : Position → Bool
listed Line = false
listed Take = false
listed (Copy half w) = false
listed Select = false
listed Push = false
listed Relink = false
listed _ = true

-- the trampoline of a user that is added
abbrev pub took : Position → Bool
took Line = false
took Take = false
took _ = true

-- the trampoline of a user that is removed
abbrev pub gave : Effect → Position → Bool
gave Removes Close = true
gave _ _ = false

-- the traced tasks
abbrev pub pids_stored : Position → Bool
pids_stored Line = false
pids_stored StorePids = false
pids_stored _ = true

-- the graph depth
abbrev pub depth_stored : Position → Bool
depth_stored Line = false
depth_stored StoreDepth = false
depth_stored _ = true

-- the desk that such a word is of
abbrev pub desk_by : Bool → ℕ → ℕ
desk_by stored d = if stored then suc d else d

-- ## holding a command

-- before the Return every task has passed a quiet point, if the command waits for one
abbrev pub ClosingHolds : Bool → ℕ → ℕ → Type 0
ClosingHolds true request q = q < request
ClosingHolds false request q = Unit {0}

-- A task holds the command under way: it may still use what it loaded before control's store, since it has passed no quiet point
-- after the command's last request, or that request is not stored yet. q is the low half of its quiet word
abbrev pub HoldsAt : Effect → Position → ℕ → ℕ → Type 0
HoldsAt z (Await Tasks t) request q = q < request
HoldsAt z Release request q = q < request
HoldsAt z Close request q = ClosingHolds (waits z) request q
HoldsAt z _ request q = Unit {0}

-- What a task has loaded of a word: before control's own store the old content; afterwards the new one, or the old one if the command
-- waits and the task holds it. Without the wait a task would go on with what is no longer so
abbrev pub SeenAt : Bool → Effect → Position → ℕ → ℕ → Type 0 → Type 0 → Type 0
SeenAt false z p request q old new = old
SeenAt true z p request q old new = new ⊎ ((waits z ≡ true) × HoldsAt z p request q × old)

-- at which request a task has passed a quiet point, as far as control knows
abbrev pub quiet_reached : Effect → Position → ℕ → ℕ → ℕ
quiet_reached z (Await Tasks k) request t = if nat_lt t k then request else 0
quiet_reached z Release request t = request
quiet_reached z Close request t = if waits z then request else 0
quiet_reached z _ request t = 0

-- ## which effects come to a position

-- a user is added
abbrev pub is_adds : Effect → Bool
is_adds Adds = true
is_adds _ = false

-- a user is removed
abbrev pub is_removes : Effect → Bool
is_removes Removes = true
is_removes _ = false

-- a copy of the user's sets is written
abbrev pub writes_copy : Effect → Bool
writes_copy Adds = true
writes_copy Edits = true
writes_copy _ = false

-- the list of users changes
abbrev pub relinks : Effect → Bool
relinks Adds = true
relinks Removes = true
relinks _ = false

-- call sites may change
abbrev pub patches : Effect → Bool
patches Adds = true
patches Removes = true
patches Edits = true
patches _ = false

-- a user's state is stored
abbrev pub selects : Effect → Bool
selects Lists = false
selects Levels = false
selects Nothing = false
selects _ = true

-- the traced tasks are stored
abbrev pub is_lists : Effect → Bool
is_lists Lists = true
is_lists _ = false

-- the graph depth is stored
abbrev pub is_levels : Effect → Bool
is_levels Levels = true
is_levels _ = false

-- a command with this effect comes to the position
abbrev pub comes_to : Effect → Position → Bool
comes_to z Line = true
comes_to z Take = is_adds z
comes_to z (Copy half w) = writes_copy z
comes_to z Select = selects z
comes_to z Push = is_adds z
comes_to z Relink = relinks z
comes_to z StorePids = is_lists z
comes_to z StoreDepth = is_levels z
comes_to z (Ask Tasks) = waits z
comes_to z (Await Tasks t) = waits z
comes_to z Release = is_removes z
comes_to z Close = true
comes_to z _ = patches z

-- ## requests

-- a sync of a batch stores one request
abbrev pub syncs_by : Move → ℕ
syncs_by Sync = 1
syncs_by _ = 0

-- how many syncs are among these moves
abbrev pub syncs_in : List Move → ℕ
syncs_in rest = sum_by syncs_by rest

-- how many requests a command has stored at most
abbrev pub asked_in : Position → ℕ
asked_in (Patch w x rest) = 3 - syncs_in rest
asked_in (Ask (Cpus rest)) = 2 - syncs_in rest
asked_in (Await (Cpus rest) c) = 3 - syncs_in rest
asked_in (Ask Tasks) = 3
asked_in (Await Tasks t) = 4
asked_in Release = 4
asked_in Close = 4
asked_in _ = 0
