-- The shadow stack as contracts see it, against the two lists that keep it.
use Rattle.std.proofs.Common.{◌≡◌, ◌≢◌, ◌<◌, ◌≤◌, ℕ, ◌==◌, Bool, true, false, List, [], ◌∷◌, ◌++◌, length, refl, ap, sym, ◌∙◌, subst, arith, reverse}
use Rattle.std.specs.Bool.{OnFalse}
use Rattle.std.specs.Global.{Vec}
use Rattle.std.proofs.lemmas.Bool.{false≢true, eq-eqb}
use Rattle.std.proofs.lemmas.List.{length-reverse, reverse-append}
use Rattle.ft_base.specs.declared.limits.TheConstants.{USERS}
use Rattle.return_stack.specs.declared.shadow.Frame.{Frame}
use Rattle.return_stack.specs.declared.shadow.FrameUser.{FrameUser}
use Rattle.return_stack.specs.declared.shadow.ShadowStack.TheInside.{Inside}
use Rattle.return_stack.specs.Shadow.{Shadow, users_on, with_user_on}
use Rattle.return_stack.specs.Frames.{frames_of, AreInFrames}
use Rattle.return_stack.specs.ShadowInvariant.{shadow_of}
use Rattle.return_stack.proofs.FrameLemmas.{length-frames_of, frames_of-append, AreInFrames-append, AreInFrames-push}

-- there are as many frames as are kept
pub length-frames : (s : Inside) (v : Shadow) → shadow_of s ≡ v → length v.frames ≡ length s.frames.items
length-frames s v e =
    ap (λ (w : Shadow). length w.frames) (sym e) ∙ (length-frames_of (reverse s.frames.items) s.users.items ∙ length-reverse s.frames.items)

-- the limit is the one that is kept
pub limit_is : (s : Inside) (v : Shadow) → shadow_of s ≡ v → v.limit ≡ s.limit
limit_is s v e = ap (λ (w : Shadow). w.limit) (sym e)

-- whether all frames are in use
pub is_full_at : (s : Inside) (v : Shadow) (n : ℕ) → shadow_of s ≡ v → n ≡ length s.frames.items → (n == s.limit) ≡ (length v.frames == v.limit)
is_full_at s v n e h = rw (length-frames s v e, limit_is s v e, h)

-- a fact for the case that a test fails
on_false : (b : Bool) (P : Type 0) → (b ≡ false → P) → OnFalse b P
on_false true P h = tt
on_false false P h = h refl

-- if not all frames are in use, there is room for one more
pub room_at : (s : Inside) (v : Shadow) (n : ℕ) → shadow_of s ≡ v → n ≡ length s.frames.items → n ≤ s.limit → OnFalse (n == s.limit) (length v.frames < v.limit)
room_at s v n e h within =
    let length_is = length-frames s v e in
    let limit = limit_is s v e in
    on_false (n == s.limit) (length v.frames < v.limit) (λ apart. let differ : n ≢ s.limit = λ same. false≢true (sym apart ∙ eq-eqb n s.limit same) in omega arith)

-- one more frame is added to the list of frames
pub filled_by_push : (fs gs : List Frame) (us : List FrameUser) (f : Frame) → gs ≡ fs ++ f ∷ [] → f.first_user ≡ length us
    → AreInFrames (reverse fs) us → AreInFrames (reverse gs) us
filled_by_push fs gs us f e h a =
    rw (e, reverse-append fs (f ∷ [])) (AreInFrames-push (reverse fs) us f h a)

-- what the latest frame has, said of the lists
pub record OnLatest (fs : List Frame) (us : List FrameUser) : Type 0 where
  pub filled : AreInFrames fs us
  pub frame : 0 < length fs
  pub room : length (users_on (frames_of fs us)) < USERS

-- the latest frame has room for one more user
pub on_latest : (s : Inside) (v : Shadow) → shadow_of s ≡ v → AreInFrames (reverse s.frames.items) s.users.items → 0 < length v.frames
    → length (users_on v.frames) < USERS → OnLatest (reverse s.frames.items) s.users.items
on_latest s v e a frame room = record {
  filled = a;
  frame = omega (arith, length-frames s v e, length-reverse s.frames.items);
  room = subst (λ (w : Shadow). length (users_on w.frames) < USERS) (sym e) room;
}

-- one more user is added to the list of users
pub filled_by_user : (fs : List Frame) (us vs : List FrameUser) (u : FrameUser) → vs ≡ us ++ u ∷ [] → OnLatest fs us → AreInFrames fs vs
filled_by_user fs us vs u e a = rw e (AreInFrames-append fs us u a.filled a.frame a.room)

-- and it is one of the latest frame
pub shadow_with_user : (s : Inside) (v : Shadow) (users : Vec FrameUser) (u : FrameUser) → shadow_of s ≡ v
    → OnLatest (reverse s.frames.items) s.users.items → users.items ≡ s.users.items ++ u ∷ [] → shadow_of (record s { users = users }) ≡ with_user_on v u
shadow_with_user s v users u e a h =
    rw (← e) (rw (h, frames_of-append (reverse s.frames.items) s.users.items u a.filled a.frame) refl)
