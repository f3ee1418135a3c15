-- The holders of slots, and the lowest slot that is free (ftrace.rst, The File System: enabled_functions).
use Rattle.std.specs.Prelude.{◌≡◌, ℕ, ◌<◌, Bool, true, false, not, List, length, slice_index_or, Option, None, is_some}
use Rattle.ft_base.specs.declared.number.UserNo.{UserNo}

-- the user that holds each slot, if one does, in the order of the slots
abbrev pub Holders : Type 0
Holders = List (Option UserNo)

-- the user that holds a slot; a slot that there isn't has no holder
abbrev pub holder_of : Holders → ℕ → Option UserNo
holder_of holders slot = slice_index_or holders slot None

-- whether nobody holds a slot
abbrev pub is_free_slot : Holders → ℕ → Bool
is_free_slot holders slot = not (is_some (holder_of holders slot))

-- every slot is held
abbrev pub AllHeld : Holders → Type 0
AllHeld holders = (slot : ℕ) → slot < length holders → is_free_slot holders slot ≡ false

-- the slot is there and free, and each one below it is held
pub record IsLowestFree (holders : Holders) (slot : ℕ) : Type 0 where
  pub within : slot < length holders
  pub free : is_free_slot holders slot ≡ true
  pub least : (lower : ℕ) → lower < slot → is_free_slot holders lower ≡ false
