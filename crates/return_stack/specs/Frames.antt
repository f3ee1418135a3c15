-- How one list keeps the users of all frames.
use Rattle.std.specs.Prelude.{ℕ, ◌+◌, ◌≤◌, ◌≡◌, List, [], ◌∷◌, length, take, drop}
use Rattle.ft_base.specs.declared.limits.TheConstants.{USERS}
use Rattle.return_stack.specs.declared.shadow.FrameUser.{FrameUser}
use Rattle.return_stack.specs.declared.shadow.Frame.{Frame}
use Rattle.return_stack.specs.Shadow.{ShadowFrame}

-- the frames with their users; a frame's users are those from its first one on, as long as it is the latest frame
abbrev pub frames_of : List Frame → List FrameUser → List ShadowFrame
frames_of [] users = []
frames_of (f ∷ below) users =
    record { to = f.to; users = drop f.first_user users } ∷ frames_of below (take f.first_user users)

-- each user is in a frame, and no frame has too many
abbrev pub AreInFrames : List Frame → List FrameUser → Type 0
AreInFrames [] users = users ≡ []
AreInFrames (f ∷ below) users = (f.first_user ≤ length users) × (length users ≤ f.first_user + USERS)
    × AreInFrames below (take f.first_user users)

-- the place of the latest frame's first user
abbrev pub first_user_on : List Frame → ℕ
first_user_on [] = 0
first_user_on (f ∷ below) = f.first_user
