-- Laws of the open calls over lists of moves.
use Rattle.std.proofs.Common.{◌≡◌, ◌≢◌, ℕ, ◌≤◌, ◌+◌, ◌-◌, suc, Bool, true, false, not, ◌&&◌, List, [], ◌∷◌, ◌++◌, length, drop, map, slice_get, refl, ap, sym, ◌∙◌, arith, Option, Some, None, is_some, filter}
use Rattle.std.specs.Prelude.{◌==◌, unwrap_or, if◌then◌else◌}
use Rattle.std.specs.Option.{option_map}
use Rattle.std.proofs.lemmas.Bool.{false≢true, eq-eqb}
use Rattle.std.proofs.lemmas.List.{drop-map, length-map}
use Rattle.ft_base.specs.declared.number.CallNo.{CallNo}
use Rattle.return_stack.specs.declared.shadow.FrameUser.{FrameUser}
use Rattle.return_stack.specs.declared.stacks.Address.TheVariants.{Hook, To}
use Rattle.return_stack.specs.Calls.{StackedCall, CallStack, caller_of, has_frame, address_of, up_to, frames_in, is_full, with_hook, with_user, if_used, without_empty}
use Rattle.return_stack.specs.Moves.{Move, Push, HookTop, AddUser, DropEmpty, Pop, after_move, after_moves, plain_calls, ordinary_move, ordinary}

-- calls without their frames
abbrev plain : List StackedCall → List CallNo
plain calls = map (λ c. c.call) calls

-- a hook is no call
plain-with_hook : (calls : List StackedCall) → plain (with_hook calls) ≡ plain calls
plain-with_hook [] = refl
plain-with_hook (c ∷ below) = refl

-- nor is a user of a frame
plain-with_user : (calls : List StackedCall) (u : FrameUser) → plain (with_user calls u) ≡ plain calls
plain-with_user [] u = refl
plain-with_user (c ∷ below) u = refl

-- nor is a frame that goes
plain-without_empty : (calls : List StackedCall) → plain (without_empty calls) ≡ plain calls
plain-without_empty [] = refl
plain-without_empty (c ∷ below) = refl

-- a return takes the same call away
plain-drop : (calls : List StackedCall) → plain (drop 1 calls) ≡ drop 1 (plain calls)
plain-drop [] = refl
plain-drop (c ∷ below) = refl

-- a move on an ordinary stack
plain-after_move : (s : CallStack) (move : Move) → plain_calls (after_move s move) ≡ ordinary_move (plain_calls s) move
plain-after_move s (Push call) = refl
plain-after_move s HookTop = by_test (is_full s)
  where
    by_test : (b : Bool) → plain_calls (if b then s else record s { calls = with_hook s.calls }) ≡ plain_calls s
    by_test true = refl
    by_test false = plain-with_hook s.calls
plain-after_move s (AddUser user) = plain-with_user s.calls user
plain-after_move s DropEmpty = plain-without_empty s.calls
plain-after_move s Pop = plain-drop s.calls

-- the open calls are those of an ordinary stack
pub plain-after_moves : (s : CallStack) (moves : List Move) → plain_calls (after_moves s moves) ≡ ordinary (plain_calls s) moves
plain-after_moves s [] = refl
plain-after_moves s (move ∷ rest) =
    plain-after_moves (after_move s move) rest ∙ ap (λ (calls : List CallNo). ordinary calls rest) (plain-after_move s move)

-- the caller is the call below the top
pub caller_of-plain : (calls : List StackedCall) → caller_of calls ≡ slice_get (plain calls) 1
caller_of-plain [] = refl
caller_of-plain (c ∷ []) = refl
caller_of-plain (c ∷ d ∷ below) = refl

-- a call and those before it, without their frames
plain-up_to : (calls : List StackedCall) (i : ℕ) → plain (up_to calls i) ≡ up_to (plain calls) i
plain-up_to calls i =
    sym (drop-map (λ (c : StackedCall). c.call) (length calls - suc i) calls)
    ∙ ap (λ (n : ℕ). drop (n - suc i) (plain calls)) (sym (length-map calls (λ (c : StackedCall). c.call)))

-- the caller of a call is the one on an ordinary stack
pub caller_of-after_moves : (s : CallStack) (moves : List Move) → caller_of (after_moves s moves).calls ≡ slice_get (ordinary (plain_calls s) moves) 1
caller_of-after_moves s moves =
    caller_of-plain (after_moves s moves).calls ∙ ap (λ (calls : List CallNo). slice_get calls 1) (plain-after_moves s moves)

-- each address is the hook, or the one on an ordinary stack
pub address_of-after_moves : (s : CallStack) (moves : List Move) (i : ℕ) → let calls = up_to (after_moves s moves).calls i in
    address_of calls ≡ (if has_frame calls then Hook else To (slice_get (up_to (ordinary (plain_calls s) moves) i) 1))
address_of-after_moves s moves i =
    let calls : List StackedCall = up_to (after_moves s moves).calls i in
    ap (λ (to : Option CallNo). if has_frame calls then Hook else To to)
    (caller_of-plain calls ∙ ap (λ (plains : List CallNo). slice_get plains 1)
    (plain-up_to (after_moves s moves).calls i ∙ ap (λ (plains : List CallNo). up_to plains i) (plain-after_moves s moves)))

-- how many frames a call has
one : Option (List FrameUser) → ℕ
one None = 0
one (Some users) = 1

-- the frames of a call and of those below it
frames_in-cons : (c : StackedCall) (below : List StackedCall) → frames_in (c ∷ below) ≡ one c.users + frames_in below
unfolding one
frames_in-cons c below = by_users c.users
  where
    by_users : (users : Option (List FrameUser)) → length (if is_some users then c ∷ filter (λ d. is_some d.users) below else filter (λ d. is_some d.users) below) ≡ one users + frames_in below
    by_users None = omega arith
    by_users (Some users) = omega arith

-- a frame that is given takes at most one that is free
frames_in-with_hook : (calls : List StackedCall) (limit : ℕ) → (not (has_frame calls) && (frames_in calls == limit)) ≡ false → frames_in calls ≤ limit
    → frames_in (with_hook calls) ≤ limit
unfolding one
frames_in-with_hook [] limit free h = h
frames_in-with_hook (c ∷ below) limit free h =
    rw (frames_in-cons (record c { users = Some (unwrap_or c.users []) }) below)
    (by_users c.users (rw (frames_in-cons c below) at free) (rw (frames_in-cons c below) at h))
  where
    by_users : (users : Option (List FrameUser)) → (not (is_some users) && (one users + frames_in below == limit)) ≡ false
        → one users + frames_in below ≤ limit → 1 + frames_in below ≤ limit
    by_users None free h =
        let apart : 0 + frames_in below ≢ limit = λ same. false≢true (sym free ∙ eq-eqb (0 + frames_in below) limit same) in omega arith
    by_users (Some users) free h = h

-- a user of a frame needs no frame of its own
frames_in-with_user : (calls : List StackedCall) (u : FrameUser) → frames_in (with_user calls u) ≡ frames_in calls
frames_in-with_user [] u = refl
frames_in-with_user (c ∷ below) u = by_users c.users
  where
    by_users : (users : Option (List FrameUser)) → frames_in (record c { users = option_map (λ us. us ++ u ∷ []) users } ∷ below) ≡ frames_in (record c { users = users } ∷ below)
    by_users None = refl
    by_users (Some users) = refl

-- a frame that goes is free
frames_in-without_empty : (calls : List StackedCall) → frames_in (without_empty calls) ≤ frames_in calls
frames_in-without_empty [] = omega arith
frames_in-without_empty (c ∷ below) = by_users c.users
  where
    by_users : (users : Option (List FrameUser)) → frames_in (record c { users = if_used users } ∷ below) ≤ frames_in (record c { users = users } ∷ below)
    by_users None = omega arith
    by_users (Some []) = omega arith
    by_users (Some (u ∷ users)) = omega arith

-- so is that of a call that returns
frames_in-drop : (calls : List StackedCall) → frames_in (drop 1 calls) ≤ frames_in calls
frames_in-drop [] = omega arith
frames_in-drop (c ∷ below) = omega (arith, frames_in-cons c below)

-- no move takes more frames than there are
frames_in-after_move : (s : CallStack) (move : Move) → frames_in s.calls ≤ s.frame_limit → frames_in (after_move s move).calls ≤ (after_move s move).frame_limit
frames_in-after_move s (Push call) h = h
frames_in-after_move s HookTop h = by_test (is_full s) refl
  where
    by_test : (b : Bool) → is_full s ≡ b → frames_in (if b then s else record s { calls = with_hook s.calls }).calls ≤ (if b then s else record s { calls = with_hook s.calls }).frame_limit
    by_test true e = h
    by_test false e = frames_in-with_hook s.calls s.frame_limit e h
frames_in-after_move s (AddUser user) h = omega (arith, frames_in-with_user s.calls user)
frames_in-after_move s DropEmpty h = omega (arith, frames_in-without_empty s.calls)
frames_in-after_move s Pop h = omega (arith, frames_in-drop s.calls)

-- a move leaves the limit as it is
frame_limit-after_move : (s : CallStack) (move : Move) → (after_move s move).frame_limit ≡ s.frame_limit
frame_limit-after_move s (Push call) = refl
frame_limit-after_move s HookTop = by_test (is_full s)
  where
    by_test : (b : Bool) → (if b then s else record s { calls = with_hook s.calls }).frame_limit ≡ s.frame_limit
    by_test true = refl
    by_test false = refl
frame_limit-after_move s (AddUser user) = refl
frame_limit-after_move s DropEmpty = refl
frame_limit-after_move s Pop = refl

-- no list of moves takes more frames than there are
pub frames_in-after_moves : (s : CallStack) (moves : List Move) → frames_in s.calls ≤ s.frame_limit → frames_in (after_moves s moves).calls ≤ s.frame_limit
frames_in-after_moves s [] h = h
frames_in-after_moves s (move ∷ rest) h =
    let next = frames_in-after_moves (after_move s move) rest (frames_in-after_move s move h) in
    omega (arith, frame_limit-after_move s move)
