-- A command as a list of moves: all that control stores and waits for between its Begin and its Return, in order. docs/PROTOCOL.md tells what
-- each move is for.
use Rattle.std.specs.Prelude.{ℕ, suc, Bool, List, [], ◌∷◌, ◌++◌, map, length, if◌then◌else◌}
use Rattle.std.specs.List.{range_with_len}
use Rattle.ft_base.specs.Job.{Job}
use Rattle.ft_base.specs.Desk.{desk}
use Rattle.word_map.specs.Words.{Word, First, Pids, Depth, Tramp, Link, Sel, Bits}
use Rattle.word_map.specs.Contents.{sel_of, tramp_word, set_word, mask_of, other_copy}
use Rattle.patch_core.specs.Moves.{Move as BatchMove, Put as BatchPut, Sync as BatchSync}
use Rattle.word_machine.specs.Commands.{Effect, Adds, Removes, Edits, Enables, Disables, Lists, Levels, Nothing, effect, subject, state_of, set_words, has_slot_at, moves}
use Rattle.word_machine.specs.Control.{Control, slot_of, copy_after, name_of, follower, namer_from}

-- a move: a store, a wait for the acknowledgement of each CPU, or a wait for a quiet point of each task
pub data Move : Type 0 where
  Put : (w : Word) (x : ℕ) → Move
  Sync : Move
  Quiet : Move

-- ## the stores of the command that control is about to begin

-- a word of its user's sets, into the copy that is not in use
abbrev pub set_store : Job → Control → ℕ → ℕ → Move
set_store job s half w =
    let u = subject job s.commands_done in Put (Bits u (other_copy (s.copies u)) half w) (set_word (state_of job (suc s.commands_done) u) half w)

-- all words of the filter, which is half 0, or of the notrace set, half 1
abbrev pub set_stores : Job → Control → ℕ → List Move
set_stores job s half = map (set_store job s half) (range_with_len 0 (set_words job))

-- its user's state, which names the copy
abbrev pub state_store : Job → Control → Move
state_store job s =
    let u = subject job s.commands_done in
    Put (Sel u) (sel_of (state_of job (suc s.commands_done) u) (copy_after (effect job s.commands_done) (s.copies u)))

-- the link of a user that is added
abbrev pub link_store : Job → Control → Move
link_store job s = Put (Link (subject job s.commands_done)) (name_of s.order)

-- the head of the list
abbrev pub first_store : Job → Control → Move
first_store job s = Put First (suc (subject job s.commands_done))

-- the word that names a user that is removed
abbrev pub unlink_store : Job → Control → Move
unlink_store job s = Put (namer_from First (subject job s.commands_done) s.order) (follower (subject job s.commands_done) s.order)

-- the traced tasks
abbrev pub pids_store : Job → Control → Move
pids_store job s = Put Pids (mask_of (desk job (suc s.commands_done)) (length job.tasks))

-- the graph depth
abbrev pub depth_store : Job → Control → Move
depth_store job s = Put Depth (desk job (suc s.commands_done)).depth

-- the trampoline of a user that is added
abbrev pub take_store : Job → Control → Move
take_store job s =
    let u = subject job s.commands_done in let new = state_of job (suc s.commands_done) u in
    Put (Tramp (slot_of new.slot)) (tramp_word new.reg u)

-- that of a user that is removed, which is nobody's then
abbrev pub give_store : Job → ℕ → Move
give_store job d = Put (Tramp (slot_of (state_of job d (subject job d)).slot)) 0

-- a move, if there is a trampoline
abbrev pub move_if : Bool → Move → List Move
move_if b m = if b then m ∷ [] else []

-- it is given back, if there is one
abbrev pub given : Job → ℕ → List Move
given job d = move_if (has_slot_at job d (subject job d)) (give_store job d)

-- ## the moves

-- the moves of a batch, and then these
abbrev pub batch_then : List BatchMove → List Move → List Move
batch_then (BatchPut w x ∷ rest) after = Put w x ∷ batch_then rest after
batch_then (BatchSync ∷ rest) after = Sync ∷ batch_then rest after
batch_then _ after = after

-- both sets, and then these
abbrev pub sets_then : Job → Control → List Move → List Move
sets_then job s after = set_stores job s 0 ++ (set_stores job s 1 ++ after)

-- the call sites that change, and then these
abbrev pub patch_then : Job → Control → List Move → List Move
patch_then job s after = batch_then (moves job s.commands_done) after

-- the trampoline that is taken, if the user gets one
abbrev pub taken : Job → Control → List Move
taken job s = move_if (has_slot_at job (suc s.commands_done) (subject job s.commands_done)) (take_store job s)

-- those of a command with an effect: the rows of the table in docs/PROTOCOL.md
abbrev pub program_of : Job → Control → Effect → List Move
program_of job s Adds = taken job s ++ sets_then job s (state_store job s ∷ link_store job s ∷ first_store job s ∷ patch_then job s [])
program_of job s Removes = state_store job s ∷ unlink_store job s ∷ patch_then job s (Quiet ∷ given job s.commands_done)
program_of job s Edits = sets_then job s (state_store job s ∷ patch_then job s (Quiet ∷ []))
program_of job s Enables = state_store job s ∷ []
program_of job s Disables = state_store job s ∷ Quiet ∷ []
program_of job s Lists = pids_store job s ∷ Quiet ∷ []
program_of job s Levels = depth_store job s ∷ Quiet ∷ []
program_of job s Nothing = []

-- the command that control is about to begin, as a list
abbrev pub program : Job → Control → List Move
program job s = program_of job s (effect job s.commands_done)
