-- One holder against a set, and the lower of two conflicts.
use Rattle.std.specs.Prelude.{◌≡◌, ℕ, ◌<◌, nat_lt, true, false, ◌&&◌, Option, Some, None, if◌then◌else◌}
use Rattle.ft_base.specs.Marks.{Marks, holds}
use Rattle.ipmodify.specs.declared.conflicts.Holder.{Holder}
use Rattle.ipmodify.specs.declared.conflicts.Conflict.{Conflict}
use Rattle.ipmodify.specs.Conflicts.{is_in_way}

-- the holder is in the way at no function of the set
abbrev pub IsApart : Marks → Holder → ℕ → Type 0
IsApart on h me = (f : ℕ) → (holds on f && is_in_way me f (Some h)) ≡ false

-- the lowest function of the set at which the holder is in the way, with that holder
pub record IsMeeting (on : Marks) (h : Holder) (me : ℕ) (c : Conflict) : Type 0 where
  pub holder : h.user ≡ c.holder
  pub clash : (holds on c.func.0 && is_in_way me c.func.0 (Some h)) ≡ true
  pub least : (f : ℕ) → f < c.func.0 → (holds on f && is_in_way me f (Some h)) ≡ false

-- of two conflicts the one at the lower function, and the first if the functions are one
abbrev pub lower_of : Option Conflict → Option Conflict → Option Conflict
lower_of None other = other
lower_of (Some c) None = Some c
lower_of (Some c) (Some d) = if nat_lt d.func.0 c.func.0 then Some d else Some c
