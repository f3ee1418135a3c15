-- Control: the steps of each command in their order, its next operation, and what the value that the operation gives makes of it.
-- docs/PROTOCOL.md tells what each store and each wait is for.
use Rattle.std.specs.Prelude.{ℕ, zero, suc, Bool, true, false, ◌==◌, nat_lt, nat_le, List, [], ◌∷◌, length, Option, Some, None, if◌then◌else◌}
use Rattle.ft_base.specs.declared.item.Answer.{Answer}
use Rattle.ft_base.specs.declared.item.Answer.TheVariants.{Accepted}
use Rattle.ft_base.specs.declared.item.Item.TheVariants.{Begin, Return}
use Rattle.ft_base.specs.Job.{Job, Command, Unregister, Ctl, Run, Until}
use Rattle.ft_base.specs.Order.{order_after}
use Rattle.ft_base.specs.Desk.{desk, answer_on}
use Rattle.word_map.specs.Words.{Word, First, Pids, Depth, Quiet, Tramp, Link, Sel, Bits, at_put}
use Rattle.word_map.specs.Contents.{high, sel_of, tramp_word, set_word, mask_of, other_copy}
use Rattle.word_map.specs.Shapes.{shape_of}
use Rattle.word_map.specs.Ops.{WordOp, Load, Store, Mark}
use Rattle.grace_core.specs.declared.waiter.WaitPhase.{WaitPhase}
use Rattle.grace_core.specs.declared.waiter.WaitPhase.TheVariants.{Asking, Waiting, Ended}
use Rattle.grace_core.specs.Waits.{Wait, wait_next, wait_got}
use Rattle.patch_core.specs.Moves.{Move, Put, Sync}
use Rattle.word_machine.specs.Commands.{moves, command, subject, state_of, has_slot_at, set_words, Effect, Adds, Removes, Edits, Enables, Disables, Lists, Levels, Nothing, effect}

-- Whom a wait is for: each CPU, in a sync of the batch, which has these moves after it; or each task, for its quiet point
pub data Awaited : Type 0 where
  Cpus : (rest : List Move) → Awaited
  Tasks : Awaited

-- Where control stands: at a line, or in a command before this operation.
--   Take, Release      store a trampoline's word: its user, or 0
--   Copy half w        stores a word of the copy that is not in use
--   Select             stores the user's state
--   Push               stores the link of a user that is added
--   Relink             stores the word that names the user, or that named it
--   Patch w x rest     makes this store of the batch; these moves come after it
--   Ask whom           a wait: stores a request
--   Await whom n       and looks at the word of this CPU or task
--   Close              marks the Return
pub data Position : Type 0 where
  Line : Position
  Take : Position
  Copy : (half w : ℕ) → Position
  Select : Position
  Push : Position
  Relink : Position
  StorePids : Position
  StoreDepth : Position
  Patch : (w : Word) (x : ℕ) (rest : List Move) → Position
  Ask : (whom : Awaited) → Position
  Await : (whom : Awaited) (n : ℕ) → Position
  Release : Position
  Close : Position

-- control: how many commands have returned, its remaining lines, the present one first, how many requests it has stored, for each
-- user the copy of its sets that is in use, the registered users, the latest first, and where it stands
pub record Control : Type 0 where
  pub commands_done : ℕ
  pub remaining : List Ctl
  pub request : ℕ
  pub copies : ℕ → ℕ
  pub order : List ℕ
  pub position : Position

-- ## which position follows

-- the next word of the copy that is being written, all words of the filter first; after the last the store of the user's state
abbrev pub copy_from : Job → ℕ → ℕ → Position
copy_from job zero w = if nat_lt w (set_words job) then Copy 0 w else (if nat_lt 0 (set_words job) then Copy 1 0 else Select)
copy_from job (suc h) w = if nat_lt w (set_words job) then Copy 1 w else Select

-- a user that has a trampoline takes it first
abbrev pub take_or : Job → Bool → Position
take_or job b = if b then Take else copy_from job 0 0

-- a user that had a trampoline gives it back last
abbrev pub release_or : Bool → Position
release_or b = if b then Release else Close

-- after the Begin
abbrev pub begin_in : Job → ℕ → Effect → Position
begin_in job d Adds = take_or job (has_slot_at job (suc d) (subject job d))
begin_in job d Removes = Select
begin_in job d Edits = copy_from job 0 0
begin_in job d Enables = Select
begin_in job d Disables = Select
begin_in job d Lists = StorePids
begin_in job d Levels = StoreDepth
begin_in job d Nothing = Close

-- after the last sync of a batch: only a registration need not wait for quiet points
abbrev pub after_batch_in : Effect → Position
after_batch_in Removes = Ask Tasks
after_batch_in Edits = Ask Tasks
after_batch_in _ = Close

-- the same of the command after the first d
abbrev pub after_batch : Job → ℕ → Position
after_batch job d = after_batch_in (effect job d)

-- before the first of these moves of the batch; what follows if there is none
abbrev pub before_moves : Job → ℕ → List Move → Position
before_moves job d (Put w x ∷ rest) = Patch w x rest
before_moves job d (Sync ∷ rest) = Ask (Cpus rest)
before_moves job d _ = after_batch job d

-- the first step of the batch, which changes the sites; what follows if no site changes
abbrev pub batch_first : Job → ℕ → Position
batch_first job d = before_moves job d (moves job d)

-- after the store of the user's state
abbrev pub selected_in : Job → ℕ → Effect → Position
selected_in job d Adds = Push
selected_in job d Removes = Relink
selected_in job d Edits = batch_first job d
selected_in job d Disables = Ask Tasks
selected_in job d _ = Close

-- after the wait for quiet points
abbrev pub released_in : Job → ℕ → Effect → Position
released_in job d Removes = release_or (has_slot_at job d (subject job d))
released_in job d _ = Close

-- the same of the command after the first d
abbrev pub released : Job → ℕ → Position
released job d = released_in job d (effect job d)

-- ## waits

-- the wait is for tasks
abbrev pub is_for_tasks : Awaited → Bool
is_for_tasks (Cpus rest) = false
is_for_tasks Tasks = true

-- the wait for them whose request has this number, in a phase
abbrev pub wait_for : Job → Awaited → ℕ → WaitPhase → Wait
wait_for job whom request phase = record { shape = shape_of job; quiet = is_for_tasks whom; request = request; phase = phase }

-- after a wait of the command after the first d
abbrev pub after_wait : Job → ℕ → Awaited → Position
after_wait job d (Cpus rest) = before_moves job d rest
after_wait job d Tasks = released job d

-- in a phase of it
abbrev pub in_wait : Job → ℕ → Awaited → WaitPhase → Position
in_wait job d whom Asking = Ask whom
in_wait job d whom (Waiting n) = Await whom n
in_wait job d whom Ended = after_wait job d whom

-- ## the list of users

-- what a word that names the first of these users holds
abbrev pub name_of : List ℕ → ℕ
name_of [] = 0
name_of (v ∷ vs) = suc v

-- the name of the user after this one
abbrev pub follower : ℕ → List ℕ → ℕ
follower u [] = 0
follower u (v ∷ vs) = if v == u then name_of vs else follower u vs

-- the word that names a user: the head of the list, or the link of the user before it
abbrev pub namer_from : Word → ℕ → List ℕ → Word
namer_from w u [] = w
namer_from w u (v ∷ vs) = if v == u then w else namer_from (Link v) u vs

-- the store that takes a user off the list, or puts it at the head
abbrev pub relink_op : Effect → ℕ → List ℕ → WordOp
relink_op Removes u order = Store (namer_from First u order) (follower u order)
relink_op _ u order = Store First (suc u)

-- the registered users after that store
abbrev pub relinked : Effect → ℕ → List ℕ → List ℕ
relinked Removes u order = order_after order (Unregister u)
relinked _ u order = u ∷ order

-- ## the copies of a user's sets

-- which copy is in use after the store of the user's state
abbrev pub copy_after : Effect → ℕ → ℕ
copy_after Adds copy = other_copy copy
copy_after Edits copy = other_copy copy
copy_after _ copy = copy

-- the number of a trampoline slot
abbrev pub slot_of : Option ℕ → ℕ
slot_of None = 0
slot_of (Some s) = s

-- ## the next operation

-- the answer to a command after the first d
abbrev pub answer_in : Job → ℕ → Option Command → Answer
answer_in job d None = Accepted
answer_in job d (Some c) = answer_on job (desk job d) c

-- at a line: a wait looks at the task, a command begins
abbrev pub line_op : ℕ → List Ctl → Option WordOp
line_op d [] = None
line_op d (Until t n ∷ rest) = Some (Load (Quiet t))
line_op d (Run c ∷ rest) = Some (Mark (Begin (suc d)))

-- control's next operation at a position
abbrev pub next_in : Job → Control → Position → Option WordOp
next_in job s Line = line_op s.commands_done s.remaining
next_in job s Take =
    let u = subject job s.commands_done in let new = state_of job (suc s.commands_done) u in
    Some (Store (Tramp (slot_of new.slot)) (tramp_word new.reg u))
next_in job s (Copy half w) =
    let u = subject job s.commands_done in
    Some (Store (Bits u (other_copy (s.copies u)) half w) (set_word (state_of job (suc s.commands_done) u) half w))
next_in job s Select =
    let u = subject job s.commands_done in
    Some (Store (Sel u) (sel_of (state_of job (suc s.commands_done) u) (copy_after (effect job s.commands_done) (s.copies u))))
next_in job s Push = Some (Store (Link (subject job s.commands_done)) (name_of s.order))
next_in job s Relink = Some (relink_op (effect job s.commands_done) (subject job s.commands_done) s.order)
next_in job s StorePids = Some (Store Pids (mask_of (desk job (suc s.commands_done)) (length job.tasks)))
next_in job s StoreDepth = Some (Store Depth (desk job (suc s.commands_done)).depth)
next_in job s (Patch w x rest) = Some (Store w x)
next_in job s (Ask whom) = wait_next (wait_for job whom (suc s.request) Asking)
next_in job s (Await whom n) = wait_next (wait_for job whom s.request (Waiting n))
next_in job s Release = Some (Store (Tramp (slot_of (state_of job s.commands_done (subject job s.commands_done)).slot)) 0)
next_in job s Close = Some (Mark (Return (suc s.commands_done) (answer_in job s.commands_done (command job s.commands_done))))

-- ## what a value makes of control

-- control at another position
abbrev pub at_position : Control → Position → Control
at_position s p = record s { position = p }

-- one more request is stored
abbrev pub asked : Control → Position → Control
asked s p = record s { request = suc s.request; position = p }

-- the lines after the present one
abbrev pub rest_lines : List Ctl → List Ctl
rest_lines [] = []
rest_lines (l ∷ rest) = rest

-- at a line: a wait is over once the task has finished as many acts, a command begins
abbrev pub line_got : Job → Control → List Ctl → ℕ → Control
line_got job s [] v = s
line_got job s (Until t n ∷ rest) v = record s { remaining = if nat_le n (high v) then rest else Until t n ∷ rest }
line_got job s (Run c ∷ rest) v = at_position s (begin_in job s.commands_done (effect job s.commands_done))

-- control after its operation at a position gave this value
abbrev pub got_in : Job → Control → Position → ℕ → Control
got_in job s Line v = line_got job s s.remaining v
got_in job s Take v = at_position s (copy_from job 0 0)
got_in job s (Copy half w) v = at_position s (copy_from job half (suc w))
got_in job s Select v =
    let u = subject job s.commands_done in
    record s {
      copies = at_put s.copies u (copy_after (effect job s.commands_done) (s.copies u));
      position = selected_in job s.commands_done (effect job s.commands_done);
    }
got_in job s Push v = at_position s Relink
got_in job s Relink v =
    record s { order = relinked (effect job s.commands_done) (subject job s.commands_done) s.order; position = batch_first job s.commands_done }
got_in job s StorePids v = at_position s (Ask Tasks)
got_in job s StoreDepth v = at_position s (Ask Tasks)
got_in job s (Patch w x rest) v = at_position s (before_moves job s.commands_done rest)
got_in job s (Ask whom) v = asked s (in_wait job s.commands_done whom (wait_got (wait_for job whom (suc s.request) Asking) v).phase)
got_in job s (Await whom n) v =
    at_position s (in_wait job s.commands_done whom (wait_got (wait_for job whom s.request (Waiting n)) v).phase)
got_in job s Release v = at_position s Close
got_in job s Close v = record s { commands_done = suc s.commands_done; remaining = rest_lines s.remaining; position = Line }

-- control's next operation; none at its end
unfoldable pub control_next : Job → Control → Option WordOp
control_next job s = next_in job s s.position

-- control after its next operation gave this value
unfoldable pub control_got : Job → Control → ℕ → Control
control_got job s v = got_in job s s.position v

-- control before its first line
abbrev pub control_start : Job → Control
control_start job = record { commands_done = 0; remaining = job.ctls; request = 0; copies = λ u. 0; order = []; position = Line }
