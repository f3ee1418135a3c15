-- The shadow stack: its frames with their users, the latest frame first (ftrace.rst, function graph tracer).
use Rattle.std.specs.Prelude.{ℕ, List, [], ◌∷◌, ◌++◌, Option, None}
use Rattle.ft_base.specs.declared.number.CallNo.{CallNo}
use Rattle.return_stack.specs.declared.shadow.FrameUser.{FrameUser}

-- a frame: the return address that the hook has replaced, and its users in the order in which they came
pub record ShadowFrame : Type 0 where
  pub to : Option CallNo
  pub users : List FrameUser

-- the frames, the latest first, and how many there can be
pub record Shadow : Type 0 where
  pub frames : List ShadowFrame
  pub limit : ℕ

-- the address that the latest frame has kept
abbrev pub to_on : List ShadowFrame → Option CallNo
to_on [] = None
to_on (f ∷ below) = f.to

-- the users of the latest frame
abbrev pub users_on : List ShadowFrame → List FrameUser
users_on [] = []
users_on (f ∷ below) = f.users

-- one more frame, without users
abbrev pub with_frame : Shadow → Option CallNo → Shadow
with_frame s to = record s { frames = record { to = to; users = [] } ∷ s.frames }

-- one more user of the latest frame
abbrev pub frames_with_user : List ShadowFrame → FrameUser → List ShadowFrame
frames_with_user [] user = []
frames_with_user (f ∷ below) user = record f { users = f.users ++ user ∷ [] } ∷ below

-- the shadow stack with one more user of the latest frame
abbrev pub with_user_on : Shadow → FrameUser → Shadow
with_user_on s user = record s { frames = frames_with_user s.frames user }
