-- Return addresses and frames against the open calls that they tell.
use Rattle.std.proofs.Common.{◌≡◌, ℕ, ◌<◌, zero, suc, Bool, true, false, List, [], ◌∷◌, length, drop, get_or, refl, ap, sym, ◌∙◌, arith, Option, Some, None, is_some}
use Rattle.std.specs.Prelude.{◌==◌, if◌then◌else◌}
use Rattle.std.proofs.lemmas.Bool.{false≢true}
use Rattle.std.proofs.Math.Dec.{eqb-suc-zero}
use Rattle.ft_base.specs.declared.number.CallNo.{CallNo}
use Rattle.return_stack.specs.declared.shadow.FrameUser.{FrameUser}
use Rattle.return_stack.specs.declared.stacks.Address.{Address}
use Rattle.return_stack.specs.declared.stacks.Address.TheVariants.{Hook, To}
use Rattle.return_stack.specs.Shadow.{ShadowFrame, users_on, to_on, frames_with_user}
use Rattle.return_stack.specs.Calls.{StackedCall, top_call, caller_of, top_users, has_frame, address_of, frames_in, with_hook, with_user, if_used, without_empty}
use Rattle.return_stack.specs.Addresses.{open_calls, HooksHaveFrames}

-- there are as many open calls as addresses
pub length-open_calls : (call : Option CallNo) (xs : List Address) (fs : List ShadowFrame) → HooksHaveFrames call xs fs
    → length (open_calls call xs fs) ≡ length xs
length-open_calls call [] fs t = refl
length-open_calls None (To to ∷ below) fs t = absurd (false≢true t.0)
length-open_calls (Some c) (To to ∷ below) fs t = ap suc (length-open_calls to below fs t.1)
length-open_calls call (Hook ∷ below) [] t = absurd t
length-open_calls None (Hook ∷ below) (f ∷ fs) t = absurd (false≢true t.0)
length-open_calls (Some c) (Hook ∷ below) (f ∷ fs) t = ap suc (length-open_calls f.to below fs t.1)

-- the latest call is the one that runs
pub top_call-open_calls : (call : Option CallNo) (xs : List Address) (fs : List ShadowFrame) → HooksHaveFrames call xs fs
    → top_call (open_calls call xs fs) ≡ call
top_call-open_calls call [] fs t = sym t.0
top_call-open_calls None (To to ∷ below) fs t = absurd (false≢true t.0)
top_call-open_calls (Some c) (To to ∷ below) fs t = refl
top_call-open_calls call (Hook ∷ below) [] t = absurd t
top_call-open_calls None (Hook ∷ below) (f ∷ fs) t = absurd (false≢true t.0)
top_call-open_calls (Some c) (Hook ∷ below) (f ∷ fs) t = refl

-- as many calls have a frame as there are frames
pub frames_in-open_calls : (call : Option CallNo) (xs : List Address) (fs : List ShadowFrame) → HooksHaveFrames call xs fs
    → frames_in (open_calls call xs fs) ≡ length fs
frames_in-open_calls call [] fs t = sym (ap length t.1)
frames_in-open_calls None (To to ∷ below) fs t = absurd (false≢true t.0)
frames_in-open_calls (Some c) (To to ∷ below) fs t = frames_in-open_calls to below fs t.1
frames_in-open_calls call (Hook ∷ below) [] t = absurd t
frames_in-open_calls None (Hook ∷ below) (f ∷ fs) t = absurd (false≢true t.0)
frames_in-open_calls (Some c) (Hook ∷ below) (f ∷ fs) t = ap suc (frames_in-open_calls f.to below fs t.1)

-- the address of the latest call that is left after the later ones are taken away
pub address_of-drop : (k : ℕ) (call : Option CallNo) (xs : List Address) (fs : List ShadowFrame) (d : Address) → HooksHaveFrames call xs fs → k < length xs
    → address_of (drop k (open_calls call xs fs)) ≡ get_or xs k d
address_of-drop k call [] fs d t h = absurd (omega arith)
address_of-drop k None (To to ∷ below) fs d t h = absurd (false≢true t.0)
address_of-drop zero (Some c) (To to ∷ below) fs d t h = ap To (top_call-open_calls to below fs t.1)
address_of-drop (suc k) (Some c) (To to ∷ below) fs d t h = address_of-drop k to below fs d t.1 (omega arith)
address_of-drop k call (Hook ∷ below) [] d t h = absurd t
address_of-drop k None (Hook ∷ below) (f ∷ fs) d t h = absurd (false≢true t.0)
address_of-drop zero (Some c) (Hook ∷ below) (f ∷ fs) d t h = refl
address_of-drop (suc k) (Some c) (Hook ∷ below) (f ∷ fs) d t h = address_of-drop k f.to below fs d t.1 (omega arith)

-- the true address of the latest call: it is there, or the latest frame has kept it
abbrev pub true_address : Address → List ShadowFrame → Option CallNo
true_address (To to) fs = to
true_address Hook fs = to_on fs

-- the latest call returns to its true address
pub caller_of-open_calls : (call : Option CallNo) (x : Address) (below : List Address) (fs : List ShadowFrame) → HooksHaveFrames call (x ∷ below) fs
    → caller_of (open_calls call (x ∷ below) fs) ≡ true_address x fs
caller_of-open_calls None (To to) below fs t = absurd (false≢true t.0)
caller_of-open_calls (Some c) (To to) below fs t = top_call-open_calls to below fs t.1
caller_of-open_calls call Hook below [] t = absurd t
caller_of-open_calls None Hook below (f ∷ fs) t = absurd (false≢true t.0)
caller_of-open_calls (Some c) Hook below (f ∷ fs) t = top_call-open_calls f.to below fs t.1

-- a call with another address than the hook has no frame
pub has_frame-unhooked : (calls : List StackedCall) (to : Option CallNo) → address_of calls ≡ To to → has_frame calls ≡ false
has_frame-unhooked calls to e = by_test (has_frame calls) e
  where
    by_test : (b : Bool) → (if b then Hook else To (caller_of calls)) ≡ To to → b ≡ false
    by_test true e = cc
    by_test false e = refl

-- a call that has its own address gets a new frame
pub open_calls-hook : (call to : Option CallNo) (below : List Address) (fs : List ShadowFrame) → HooksHaveFrames call (To to ∷ below) fs
    → open_calls call (Hook ∷ below) (record { to = to; users = [] } ∷ fs) ≡ with_hook (open_calls call (To to ∷ below) fs)
open_calls-hook None to below fs t = absurd (false≢true t.0)
open_calls-hook (Some c) to below fs t = refl

-- with its frame on the shadow stack
pub HooksHaveFrames-hook : (call to : Option CallNo) (below : List Address) (fs : List ShadowFrame) → HooksHaveFrames call (To to ∷ below) fs
    → HooksHaveFrames call (Hook ∷ below) (record { to = to; users = [] } ∷ fs)
HooksHaveFrames-hook call to below fs t = t

-- a call that has a frame: its address is the hook, and the latest frame is its own
pub record HasFrame (call : Option CallNo) (xs : List Address) (fs : List ShadowFrame) : Type 0 where
  pub frame : 0 < length fs
  pub users : top_users (open_calls call xs fs) ≡ Some (users_on fs)

-- a latest call with a frame
pub has_frame-inv : (call : Option CallNo) (xs : List Address) (fs : List ShadowFrame) → HooksHaveFrames call xs fs
    → has_frame (open_calls call xs fs) ≡ true → HasFrame call xs fs
has_frame-inv call [] fs t h = absurd cc
has_frame-inv None (To to ∷ below) fs t h = absurd (false≢true t.0)
has_frame-inv (Some c) (To to ∷ below) fs t h = absurd cc
has_frame-inv call (Hook ∷ below) [] t h = absurd t
has_frame-inv None (Hook ∷ below) (f ∷ fs) t h = absurd (false≢true t.0)
has_frame-inv (Some c) (Hook ∷ below) (f ∷ fs) t h = record { frame = omega arith; users = refl }

-- one more user of the latest frame is one of the latest call
pub open_calls-frames_with_user : (call : Option CallNo) (xs : List Address) (fs : List ShadowFrame) (u : FrameUser) → HooksHaveFrames call xs fs
    → has_frame (open_calls call xs fs) ≡ true → open_calls call xs (frames_with_user fs u) ≡ with_user (open_calls call xs fs) u
open_calls-frames_with_user call [] fs u t h = absurd cc
open_calls-frames_with_user None (To to ∷ below) fs u t h = absurd (false≢true t.0)
open_calls-frames_with_user (Some c) (To to ∷ below) fs u t h = absurd cc
open_calls-frames_with_user call (Hook ∷ below) [] u t h = absurd t
open_calls-frames_with_user None (Hook ∷ below) (f ∷ fs) u t h = absurd (false≢true t.0)
open_calls-frames_with_user (Some c) (Hook ∷ below) (f ∷ fs) u t h = refl

-- and the addresses still fit
pub HooksHaveFrames-frames_with_user : (call : Option CallNo) (xs : List Address) (fs : List ShadowFrame) (u : FrameUser) → HooksHaveFrames call xs fs
    → HooksHaveFrames call xs (frames_with_user fs u)
HooksHaveFrames-frames_with_user call [] fs u t = (t.0, ap (λ (gs : List ShadowFrame). frames_with_user gs u) t.1)
HooksHaveFrames-frames_with_user call (To to ∷ below) fs u t = (t.0, HooksHaveFrames-frames_with_user to below fs u t.1)
HooksHaveFrames-frames_with_user call (Hook ∷ below) [] u t = absurd t
HooksHaveFrames-frames_with_user call (Hook ∷ below) (f ∷ fs) u t = t

-- a frame without users goes
if_used-empty : (users : List FrameUser) → (length users == 0) ≡ true → if_used (Some users) ≡ None
if_used-empty [] h = refl
if_used-empty (u ∷ users) h = absurd (false≢true (sym (eqb-suc-zero (length users)) ∙ h))

-- a frame with users stays
if_used-used : (users : List FrameUser) → (length users == 0) ≡ false → if_used (Some users) ≡ Some users
if_used-used [] h = absurd cc
if_used-used (u ∷ users) h = refl

-- a frame without users gives its address back
pub open_calls-drop : (call : Option CallNo) (below : List Address) (fs : List ShadowFrame) → HooksHaveFrames call (Hook ∷ below) fs
    → (length (users_on fs) == 0) ≡ true
    → open_calls call (To (to_on fs) ∷ below) (drop 1 fs) ≡ without_empty (open_calls call (Hook ∷ below) fs)
open_calls-drop call below [] t h = absurd t
open_calls-drop None below (f ∷ fs) t h = absurd (false≢true t.0)
open_calls-drop (Some c) below (f ∷ fs) t h = rw (if_used-empty f.users h) refl

-- and the addresses still fit
pub HooksHaveFrames-drop : (call : Option CallNo) (below : List Address) (fs : List ShadowFrame) → HooksHaveFrames call (Hook ∷ below) fs
    → HooksHaveFrames call (To (to_on fs) ∷ below) (drop 1 fs)
HooksHaveFrames-drop call below [] t = absurd t
HooksHaveFrames-drop call below (f ∷ fs) t = t

-- no frame is none without users
if_used-none : (users : Option (List FrameUser)) → is_some users ≡ false → if_used users ≡ users
if_used-none None h = refl
if_used-none (Some users) h = absurd (false≢true (sym h))

-- a call that has no frame has none without users
pub without_empty-unhooked : (calls : List StackedCall) → has_frame calls ≡ false → without_empty calls ≡ calls
without_empty-unhooked [] h = refl
without_empty-unhooked (c ∷ below) h =
    ap (λ (users : Option (List FrameUser)). record c { users = users } ∷ below) (if_used-none c.users h)

-- nor has one whose frame has users
pub without_empty-used : (calls : List StackedCall) (users : List FrameUser) → top_users calls ≡ Some users → (length users == 0) ≡ false
    → without_empty calls ≡ calls
without_empty-used [] users e h = absurd cc
without_empty-used (c ∷ below) users e h =
    ap (λ (us : Option (List FrameUser)). record c { users = us } ∷ below) (ap if_used e ∙ (if_used-used users h ∙ sym e))
