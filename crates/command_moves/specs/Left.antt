-- What is left of a command, by control's position: the machine's steps as a list, the present one first.
use Rattle.std.specs.Prelude.{ℕ, zero, suc, ◌-◌, ◌<◌, Bool, true, false, List, [], ◌∷◌, ◌++◌, map}
use Rattle.std.specs.List.{range_with_len}
use Rattle.ft_base.specs.Job.{Job}
use Rattle.patch_core.specs.Moves.{Move as BatchMove}
use Rattle.word_machine.specs.Commands.{Effect, Adds, Removes, Edits, Disables, effect, set_words, moves}
use Rattle.word_machine.specs.Control.{Control, Position, Line, Take, Copy, Select, Push, Relink, StorePids, StoreDepth, Patch, Ask, Await, Awaited, Cpus, Tasks, Release, Close}
use Rattle.command_moves.specs.Program.{Move, Put, Sync, Quiet, set_store, state_store, link_store, first_store, unlink_store, pids_store, depth_store, take_store, give_store, given, batch_then}

-- after the wait for quiet points
abbrev pub released_left : Job → ℕ → Effect → List Move
released_left job d Removes = given job d
released_left job d _ = []

-- after the batch
abbrev pub after_left : Job → ℕ → Effect → List Move
after_left job d Removes = Quiet ∷ released_left job d Removes
after_left job d Edits = Quiet ∷ released_left job d Edits
after_left job d _ = []

-- these moves of the batch, and what is behind it
abbrev pub patch_left : Job → ℕ → List BatchMove → List Move
patch_left job d rest = batch_then rest (after_left job d (effect job d))

-- the store of the list's word: the head, or the word that names a user that is removed
abbrev pub relink_store : Job → Control → Effect → Move
relink_store job s Removes = unlink_store job s
relink_store job s _ = first_store job s

-- from there on
abbrev pub relink_left : Job → Control → List Move
relink_left job s = relink_store job s (effect job s.commands_done) ∷ patch_left job s.commands_done (moves job s.commands_done)

-- from the link of a user that is added on
abbrev pub push_left : Job → Control → List Move
push_left job s = link_store job s ∷ relink_left job s

-- after the user's state
abbrev pub selected_left : Job → Control → Effect → List Move
selected_left job s Adds = push_left job s
selected_left job s Removes = relink_left job s
selected_left job s Edits = patch_left job s.commands_done (moves job s.commands_done)
selected_left job s Disables = Quiet ∷ released_left job s.commands_done (effect job s.commands_done)
selected_left job s _ = []

-- from the user's state on
abbrev pub select_left : Job → Control → List Move
select_left job s = state_store job s ∷ selected_left job s (effect job s.commands_done)

-- from this word of a set on, and then these
abbrev pub half_left : Job → Control → ℕ → ℕ → List Move → List Move
half_left job s half w after = map (set_store job s half) (range_with_len w (set_words job - w)) ++ after

-- from a word of the copy on, all words of the filter first
abbrev pub copy_left : Job → Control → ℕ → ℕ → List Move
copy_left job s zero w = half_left job s 0 w (half_left job s 1 0 (select_left job s))
copy_left job s (suc h) w = half_left job s 1 w (select_left job s)

-- a wait
abbrev pub wait_move : Awaited → Move
wait_move (Cpus rest) = Sync
wait_move Tasks = Quiet

-- what is behind it
abbrev pub behind : Job → ℕ → Awaited → List Move
behind job d (Cpus rest) = patch_left job d rest
behind job d Tasks = released_left job d (effect job d)

-- both
abbrev pub wait_left : Job → ℕ → Awaited → List Move
wait_left job d whom = wait_move whom ∷ behind job d whom

-- what is left at a position
abbrev pub left_in : Job → Control → Position → List Move
left_in job s Line = []
left_in job s Take = take_store job s ∷ copy_left job s 0 0
left_in job s (Copy half w) = copy_left job s half w
left_in job s Select = select_left job s
left_in job s Push = push_left job s
left_in job s Relink = relink_left job s
left_in job s StorePids = pids_store job s ∷ wait_left job s.commands_done Tasks
left_in job s StoreDepth = depth_store job s ∷ wait_left job s.commands_done Tasks
left_in job s (Patch w x rest) = Put w x ∷ patch_left job s.commands_done rest
left_in job s (Ask whom) = wait_left job s.commands_done whom
left_in job s (Await whom n) = wait_left job s.commands_done whom
left_in job s Release = give_store job s.commands_done ∷ []
left_in job s Close = []

-- control is not in a wait whose request is stored
abbrev pub idle : Position → Bool
idle (Await whom n) = false
idle _ = true

-- control is within a command, and the word of a set that it is about to store is there
abbrev pub InCommand : Job → Position → Type 0
InCommand job Line = ⊥
InCommand job Close = ⊥
InCommand job (Copy half w) = (half < 2) × (w < set_words job)
InCommand job _ = Unit {0}
