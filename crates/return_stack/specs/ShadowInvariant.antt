-- How two lists keep the shadow stack.
use Rattle.std.specs.Prelude.{◌*◌, ◌≤◌, reverse, vec_len, vec_capacity}
use Rattle.ft_base.specs.declared.limits.TheConstants.{USERS, FRAMES}
use Rattle.return_stack.specs.declared.shadow.ShadowStack.TheInside.{Inside}
use Rattle.return_stack.specs.Shadow.{Shadow}
use Rattle.return_stack.specs.Frames.{frames_of, AreInFrames}

-- the frames, the latest first
abbrev pub shadow_of : Inside → Shadow
shadow_of s = record { frames = frames_of (reverse s.frames.items) s.users.items; limit = s.limit }

-- each user is in a frame, and there is room for all frames with all their users
pub record ShadowInvariant (s : Inside) : Type 0 where
  pub filled : AreInFrames (reverse s.frames.items) s.users.items
  pub within : vec_len s.frames ≤ s.limit
  pub small : s.limit ≤ FRAMES
  pub frame_room : s.limit ≤ vec_capacity s.frames
  pub user_room : s.limit * USERS ≤ vec_capacity s.users
