-- The open calls of a task, the latest first, and what the calls of `Stacks` make of them (ftrace.rst, function graph tracer).
use Rattle.std.specs.Prelude.{ℕ, suc, ◌-◌, Bool, ◌&&◌, ◌==◌, not, List, [], ◌∷◌, ◌++◌, length, drop, filter, Option, Some, None, is_some, unwrap_or, if◌then◌else◌}
use Rattle.std.specs.Option.{option_map}
use Rattle.ft_base.specs.declared.number.CallNo.{CallNo}
use Rattle.return_stack.specs.declared.shadow.FrameUser.{FrameUser}
use Rattle.return_stack.specs.declared.stacks.Address.{Address}
use Rattle.return_stack.specs.declared.stacks.Address.TheVariants.{Hook, To}

-- an open call, and the users of its frame in the order in which they came, if it has a frame
pub record StackedCall : Type 0 where
  pub call : CallNo
  pub users : Option (List FrameUser)

-- the open calls, the latest first, and how many calls and frames there can be
pub record CallStack : Type 0 where
  pub calls : List StackedCall
  pub call_limit : ℕ
  pub frame_limit : ℕ

-- the latest call
abbrev pub top_call : List StackedCall → Option CallNo
top_call [] = None
top_call (c ∷ below) = Some c.call

-- the call that the latest one returns to
abbrev pub caller_of : List StackedCall → Option CallNo
caller_of calls = top_call (drop 1 calls)

-- the users of the latest call's frame, if it has a frame
abbrev pub top_users : List StackedCall → Option (List FrameUser)
top_users [] = None
top_users (c ∷ below) = c.users

-- whether the latest call has a frame
abbrev pub has_frame : List StackedCall → Bool
has_frame calls = is_some (top_users calls)

-- the return address of the latest call
abbrev pub address_of : List StackedCall → Address
address_of calls = if has_frame calls then Hook else To (caller_of calls)

-- the call at a place, the outermost at 0, and those that were open before it
abbrev pub up_to : {A : Type 0} → List A → ℕ → List A
up_to calls i = drop (length calls - suc i) calls

-- how many of the calls have a frame
abbrev pub frames_in : List StackedCall → ℕ
frames_in calls = length (filter (λ c. is_some c.users) calls)

-- the latest call has no frame, and all frames are in use
abbrev pub is_full : CallStack → Bool
is_full s = not (has_frame s.calls) && (frames_in s.calls == s.frame_limit)

-- one more call, without a frame
abbrev pub with_call : List StackedCall → CallNo → List StackedCall
with_call calls call = record { call = call; users = None } ∷ calls

-- the latest call has a frame, a new one if it had none
abbrev pub with_hook : List StackedCall → List StackedCall
with_hook [] = []
with_hook (c ∷ below) = record c { users = Some (unwrap_or c.users []) } ∷ below

-- one more user of the latest call's frame
abbrev pub with_user : List StackedCall → FrameUser → List StackedCall
with_user [] user = []
with_user (c ∷ below) user = record c { users = option_map (λ users. users ++ user ∷ []) c.users } ∷ below

-- a frame, if it has users
abbrev pub if_used : Option (List FrameUser) → Option (List FrameUser)
if_used (Some []) = None
if_used users = users

-- the latest call has no frame without users
abbrev pub without_empty : List StackedCall → List StackedCall
without_empty [] = []
without_empty (c ∷ below) = record c { users = if_used c.users } ∷ below
