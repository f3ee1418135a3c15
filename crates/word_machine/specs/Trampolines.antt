-- The rule of the trampolines' words, and of the words of the traced tasks and of the graph depth.
use Rattle.std.specs.Prelude.{ℕ, suc, ◌≡◌, ◌≢◌, ◌<◌, true, length, Some}
use Rattle.ft_base.specs.Job.{Job}
use Rattle.ft_base.specs.Desk.{UserState, desk}
use Rattle.word_map.specs.Contents.{tramp_word, mask_of}
use Rattle.word_machine.specs.Commands.{effect, subject, state_of}
use Rattle.word_machine.specs.Control.{Position}
use Rattle.word_machine.specs.Progress.{took, gave, pids_stored, depth_stored, desk_by}

-- a user has this trampoline
abbrev pub HasSlot : UserState → ℕ → Type 0
HasSlot s t = (s.registered ≡ true) × (s.slot ≡ Some t)

-- after the first k commands the trampoline is this user's, under this registration
abbrev pub IsOwned : Job → (slot u reg k : ℕ) → Type 0
IsOwned job slot u reg k = HasSlot (state_of job k u) slot × ((state_of job k u).reg ≡ reg)

-- The trampolines' words.
--   before   whoever has a trampoline before the command has its word, until control gives it back, which is after the wait for quiet
--            points. Otherwise a task that was preempted in the trampoline would call nobody, or another user
--   after    a user that is added has its word before any site calls the trampoline
--   free     the others hold 0
pub record TrampolinesHeld (job : Job) (d : ℕ) (p : Position) (tramp : ℕ → ℕ) : Type 0 where
  pub before : (u t : ℕ) → HasSlot (state_of job d u) t → (gave (effect job d) p ≡ true → u ≢ subject job d) → tramp t ≡ tramp_word (state_of job d u).reg u
  pub after : took p ≡ true → (u t : ℕ) → HasSlot (state_of job (suc d) u) t → tramp t ≡ tramp_word (state_of job (suc d) u).reg u
  pub free : (t : ℕ) → t < job.tramps
      → ((u : ℕ) → HasSlot (state_of job d u) t → (gave (effect job d) p ≡ true) × (u ≡ subject job d))
      → (took p ≡ true → (u : ℕ) → HasSlot (state_of job (suc d) u) t → ⊥) → tramp t ≡ 0

-- The words of the traced tasks and of the graph depth are those of the old desk or of the new one. Otherwise a task would be refused that
-- no list has refused
pub record PidsAndDepth (job : Job) (d : ℕ) (p : Position) (pids depth : ℕ) : Type 0 where
  pub tasks : pids ≡ mask_of (desk job (desk_by (pids_stored p) d)) (length job.tasks)
  pub level : depth ≡ (desk job (desk_by (depth_stored p) d)).depth
