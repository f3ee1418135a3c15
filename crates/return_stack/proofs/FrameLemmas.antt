-- Lists of frames, whose users one list keeps.
use Rattle.std.proofs.Common.{◌≡◌, ◌<◌, ◌≤◌, ◌*◌, suc, List, [], ◌∷◌, ◌++◌, length, take, refl, ap, arith, length-append, length-drop}
use Rattle.std.proofs.lemmas.List.{drop-append-le, take-append-le, take_all, length-take-le}
use Rattle.ft_base.specs.declared.limits.TheConstants.{USERS}
use Rattle.return_stack.specs.declared.shadow.Frame.{Frame}
use Rattle.return_stack.specs.declared.shadow.FrameUser.{FrameUser}
use Rattle.return_stack.specs.Shadow.{users_on, frames_with_user}
use Rattle.return_stack.specs.Frames.{frames_of, AreInFrames}

-- there are as many frames with their users as without
pub length-frames_of : (fs : List Frame) (us : List FrameUser) → length (frames_of fs us) ≡ length fs
length-frames_of [] us = refl
length-frames_of (f ∷ fs) us = ap suc (length-frames_of fs (take f.first_user us))

-- no more users than the frames can have
pub users_within : (fs : List Frame) (us : List FrameUser) → AreInFrames fs us → length us ≤ length fs * USERS
users_within [] us e = omega (arith, ap length e)
users_within (f ∷ fs) us a =
    omega (arith, users_within fs (take f.first_user us) a.2, length-take-le f.first_user us a.0)

-- no more users than the frames can have, with room for one more if the latest frame has
pub users_below : (fs : List Frame) (us : List FrameUser) → AreInFrames fs us → 0 < length fs
    → length (users_on (frames_of fs us)) < USERS → length us < length fs * USERS
users_below [] us a h room = absurd (omega arith)
users_below (f ∷ fs) us a h room =
    omega (arith, users_within fs (take f.first_user us) a.2, length-take-le f.first_user us a.0, length-drop f.first_user us)

-- one more user is one of the latest frame
pub frames_of-append : (fs : List Frame) (us : List FrameUser) (u : FrameUser) → AreInFrames fs us → 0 < length fs
    → frames_of fs (us ++ u ∷ []) ≡ frames_with_user (frames_of fs us) u
frames_of-append [] us u a h = absurd (omega arith)
frames_of-append (f ∷ fs) us u a h =
    rw (drop-append-le f.first_user us (u ∷ []) a.0, take-append-le f.first_user us (u ∷ []) a.0)

-- one more user is in a frame
pub AreInFrames-append : (fs : List Frame) (us : List FrameUser) (u : FrameUser) → AreInFrames fs us → 0 < length fs
    → length (users_on (frames_of fs us)) < USERS → AreInFrames fs (us ++ u ∷ [])
AreInFrames-append [] us u a h room = absurd (omega arith)
AreInFrames-append (f ∷ fs) us u a h room = (
  omega (arith, a.0, length-append us (u ∷ [])),
  omega (arith, a.0, a.1, length-append us (u ∷ []), length-drop f.first_user us),
  rw (take-append-le f.first_user us (u ∷ []) a.0) a.2,
)

-- a new frame has no users
pub AreInFrames-push : (fs : List Frame) (us : List FrameUser) (f : Frame) → f.first_user ≡ length us → AreInFrames fs us
    → AreInFrames (f ∷ fs) us
AreInFrames-push fs us f e a =
    (omega arith, omega arith, rw (take_all f.first_user us (omega arith)) a)
