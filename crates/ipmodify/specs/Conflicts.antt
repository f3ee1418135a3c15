-- What stands in the way of a user that replaces functions (ftrace-uses.rst, The ftrace FLAGS: FTRACE_OPS_FL_IPMODIFY).
use Rattle.std.specs.Prelude.{◌≡◌, ℕ, ◌<◌, Bool, true, false, not, ◌&&◌, ◌==◌, List, length, Option, Some, None, is_some, slice_get, option_map}
use Rattle.std.specs.Option.{option_and_then}
use Rattle.ft_base.specs.Marks.{Marks, holds}
use Rattle.ft_base.specs.Desk.{lowest}
use Rattle.ipmodify.specs.declared.conflicts.Holder.{Holder}
use Rattle.ipmodify.specs.declared.conflicts.Conflict.{Conflict}

-- a holder is in the way of a user at a function: it is another user, and has the function
abbrev pub is_in_way : ℕ → ℕ → Option Holder → Bool
is_in_way me f None = false
is_in_way me f (Some h) = not (h.user.0 == me) && holds h.on f

-- the place of the first holder that is in the way at a function
abbrev pub first_in_way : List Holder → ℕ → ℕ → Option ℕ
first_in_way holders me f = lowest (λ i. is_in_way me f (slice_get holders i)) 0 (length holders)

-- the function is in the set, and a holder is in the way at it
abbrev pub is_contested : Marks → List Holder → ℕ → ℕ → Bool
is_contested on holders me f = holds on f && is_some (first_in_way holders me f)

-- the conflict at a function: the function, and the first holder that is in the way at it
abbrev pub conflict_at : List Holder → ℕ → Option ℕ → Option Conflict
conflict_at holders me None = None
conflict_at holders me (Some f) =
    option_map (λ h. record { func = record { 0 = f }; holder = h.user }) (option_and_then (slice_get holders) (first_in_way holders me f))

-- the conflict at the lowest contested function, if there is one
abbrev pub conflict_of : Marks → List Holder → ℕ → Option Conflict
conflict_of on holders me = conflict_at holders me (lowest (is_contested on holders me) 0 (length on))

-- the function is in the set, and the holder at this place is in the way at it
abbrev pub clashes : Marks → List Holder → ℕ → ℕ → ℕ → Bool
clashes on holders me f i = holds on f && is_in_way me f (slice_get holders i)

-- no function of the set has a holder in the way
abbrev pub IsFree : Marks → List Holder → ℕ → Type 0
IsFree on holders me = (f i : ℕ) → clashes on holders me f i ≡ false

-- a function of the set and the first holder in the way at it, and no holder is in the way at a lower function of the set
pub record IsFirstConflict (on : Marks) (holders : List Holder) (me : ℕ) (c : Conflict) : Type 0 where
  pub place : ℕ
  pub holder : option_map (λ h. h.user) (slice_get holders place) ≡ Some c.holder
  pub clash : clashes on holders me c.func.0 place ≡ true
  pub least : (f i : ℕ) → f < c.func.0 → clashes on holders me f i ≡ false
  pub first : (i : ℕ) → i < place → clashes on holders me c.func.0 i ≡ false
