-- What each call of the stacks makes of the addresses and the shadow stack.
use Rattle.std.proofs.Common.{◌≡◌, ℕ, ◌<◌, ◌+◌, ◌-◌, suc, Bool, true, false, List, [], ◌∷◌, ◌++◌, length, take, drop, get_or, reverse, refl, ap, sym, ◌∙◌, subst, arith, Option, Some, None, is_some, filter}
use mir.Val.{bool_byte}
use Rattle.std.specs.Prelude.{◌==◌, IsSomeAnd, if◌then◌else◌}
use Rattle.std.specs.Vec.{with_item}
use Rattle.std.proofs.lemmas.List.{reverse-append}
use Rattle.ft_base.specs.declared.number.CallNo.{CallNo}
use Rattle.ft_base.specs.declared.limits.TheConstants.{USERS}
use Rattle.return_stack.specs.declared.shadow.FrameUser.{FrameUser}
use Rattle.return_stack.specs.declared.stacks.Address.{Address}
use Rattle.return_stack.specs.declared.stacks.Address.TheVariants.{Hook, To}
use Rattle.return_stack.specs.declared.stacks.Stacks.TheInside.{Inside}
use Rattle.return_stack.specs.Shadow.{Shadow, ShadowFrame, users_on, to_on, with_frame, with_user_on}
use Rattle.return_stack.specs.Calls.{StackedCall, CallStack, caller_of, top_users, has_frame, address_of, frames_in, is_full, with_hook, with_user, without_empty}
use Rattle.return_stack.specs.Addresses.{open_calls, HooksHaveFrames}
use Rattle.return_stack.specs.CallStackInvariant.{stack_of}
use Rattle.return_stack.proofs.AddressLemmas.{frames_in-open_calls, true_address, caller_of-open_calls, has_frame-unhooked, has_frame-inv, open_calls-hook, HooksHaveFrames-hook, open_calls-frames_with_user, HooksHaveFrames-frames_with_user, open_calls-drop, HooksHaveFrames-drop, without_empty-unhooked, without_empty-used}
use Rattle.return_stack.proofs.StackLemmas.{HasHookFrames, length-calls, address_of-up_to, reverse-last, reverse-set_last}

-- one more address, at a call
pub hooks_by_push : (xs ys : List Address) (running : Option CallNo) (call : CallNo) (fs : List ShadowFrame) → ys ≡ xs ++ To running ∷ []
    → HooksHaveFrames running (reverse xs) fs → HooksHaveFrames (Some call) (reverse ys) fs
hooks_by_push xs ys running call fs e t = rw (e, reverse-append xs (To running ∷ [])) (refl, t)

-- the latest call has a frame, the latest one
pub record OnFrame (s : Inside) (v : CallStack) : Type 0 where
  pub has : has_frame (open_calls s.running (reverse s.addresses.items) s.shadow.frames) ≡ true
  pub frame : 0 < length s.shadow.frames
  pub users : top_users v.calls ≡ Some (users_on s.shadow.frames)

-- the latest call has a frame
pub on_frame : (s : Inside) (v : CallStack) → stack_of s ≡ v → HasHookFrames s → has_frame v.calls ≡ true → OnFrame s v
on_frame s v e t h =
    let has : has_frame (open_calls s.running (reverse s.addresses.items) s.shadow.frames) ≡ true = ap (λ (w : CallStack). has_frame w.calls) e ∙ h in
    let on = has_frame-inv s.running (reverse s.addresses.items) s.shadow.frames t has in
    record { has = has; frame = on.frame; users = ap (λ (w : CallStack). top_users w.calls) (sym e) ∙ on.users }

-- a frame of which something is said
has_frame_with : (users : Option (List FrameUser)) (P : List FrameUser → Type 0) → IsSomeAnd users P → is_some users ≡ true
has_frame_with None P h = absurd h
has_frame_with (Some users) P h = refl

-- what is said of the users of a frame
said_of : (users : Option (List FrameUser)) (us : List FrameUser) (P : List FrameUser → Type 0) → users ≡ Some us → IsSomeAnd users P → P us
said_of users us P e h = let Q : Option (List FrameUser) → Type 0 = λ o. IsSomeAnd o P in subst Q e h

-- the latest call has a frame with room
pub on_frame_with_room : (s : Inside) (v : CallStack) → stack_of s ≡ v → HasHookFrames s
    → IsSomeAnd (top_users v.calls) (λ users. length users < USERS) → OnFrame s v × (length (users_on s.shadow.frames) < USERS)
on_frame_with_room s v e t h =
    let on = on_frame s v e t (has_frame_with (top_users v.calls) _ h) in
    (on, said_of (top_users v.calls) (users_on s.shadow.frames) (λ users. length users < USERS) on.users h)

-- the stacks with one more user of the latest frame
pub stack_with_user : (s : Inside) (v : CallStack) (shadow : Shadow) (u : FrameUser) → stack_of s ≡ v → HasHookFrames s → OnFrame s v
    → shadow ≡ with_user_on s.shadow u → stack_of (record s { shadow = shadow }) ≡ record v { calls = with_user v.calls u }
stack_with_user s v shadow u e t on h =
    rw (← e) (rw (h, open_calls-frames_with_user s.running (reverse s.addresses.items) s.shadow.frames u t on.has) refl)

-- and the addresses still fit
pub hooks_with_user : (s : Inside) (shadow : Shadow) (u : FrameUser) → HasHookFrames s → shadow ≡ with_user_on s.shadow u → HasHookFrames (record s { shadow = shadow })
hooks_with_user s shadow u t h = rw h (HooksHaveFrames-frames_with_user s.running (reverse s.addresses.items) s.shadow.frames u t)

-- as many calls have a frame as there are frames
pub frames_in-calls : (s : Inside) (v : CallStack) → stack_of s ≡ v → HasHookFrames s → frames_in v.calls ≡ length s.shadow.frames
frames_in-calls s v e t =
    ap (λ (w : CallStack). frames_in w.calls) (sym e) ∙ frames_in-open_calls s.running (reverse s.addresses.items) s.shadow.frames t

-- the calls below the latest one have its frame less
pub frames_in-below : (calls : List StackedCall) (b : Bool) (n : ℕ) → b ≡ has_frame calls → n ≡ bool_byte b → n + frames_in (drop 1 calls) ≡ frames_in calls
frames_in-below [] b n e h = omega (arith, h ∙ ap bool_byte e)
frames_in-below (c ∷ below) b n e h = ap (λ (m : ℕ). m + frames_in below) (h ∙ ap bool_byte e) ∙ by_test (is_some c.users)
  where
    by_test : (b : Bool) → bool_byte b + frames_in below ≡ length (if b then c ∷ filter (λ d. is_some d.users) below else filter (λ d. is_some d.users) below)
    by_test true = omega arith
    by_test false = omega arith

-- the latest call returns to its true address
pub caller_is : (s : Inside) (v : CallStack) (front : List Address) (x : Address) → stack_of s ≡ v → HasHookFrames s → s.addresses.items ≡ front ++ x ∷ []
    → caller_of v.calls ≡ true_address x s.shadow.frames
caller_is s v front x e t h =
    let r : reverse s.addresses.items ≡ x ∷ reverse front = ap (λ (xs : List Address). reverse xs) h ∙ reverse-append front (x ∷ []) in
    let u : HooksHaveFrames s.running (x ∷ reverse front) s.shadow.frames = rw r at t in
    ap (λ (w : CallStack). caller_of w.calls) (sym e)
    ∙ (ap (λ (xs : List Address). caller_of (open_calls s.running xs s.shadow.frames)) r
    ∙ caller_of-open_calls s.running x (reverse front) s.shadow.frames u)

-- the address of the latest call
pub address_of-calls : (s : Inside) (v : CallStack) (n : ℕ) (d : Address) → stack_of s ≡ v → HasHookFrames s → suc n ≡ length s.addresses.items
    → address_of v.calls ≡ get_or s.addresses.items n d
address_of-calls s v n d e t h =
    let m : length v.calls - suc n ≡ 0 = omega (arith, length-calls s v e t) in
    ap (λ (k : ℕ). address_of (drop k v.calls)) (sym m) ∙ address_of-up_to s v n d e t (omega arith)

-- the place of the latest address
pub place_of_top : (s : Inside) (v : CallStack) (m : ℕ) → stack_of s ≡ v → HasHookFrames s → m ≡ length s.addresses.items → 0 < length v.calls
    → suc (m - 1) ≡ length s.addresses.items
place_of_top s v m e t h some = omega (arith, length-calls s v e t)

-- the latest call has its own address, at the place n
pub record IsUnhooked (s : Inside) (v : CallStack) (n : ℕ) (to : Option CallNo) : Type 0 where
  pub top : suc n ≡ length s.addresses.items
  pub address : get_or s.addresses.items n (To to) ≡ To to
  pub found : address_of v.calls ≡ To to

-- an address that was read there
pub unhooked_at : (s : Inside) (v : CallStack) (m : ℕ) (to : Option CallNo) (x : Address) → stack_of s ≡ v → HasHookFrames s → m ≡ length s.addresses.items
    → 0 < length v.calls → x ≡ get_or s.addresses.items (m - 1) x → x ≡ To to → IsUnhooked s v (m - 1) to
unhooked_at s v m to x e t h some read is =
    let top = place_of_top s v m e t h some in
    let address : get_or s.addresses.items (m - 1) (To to) ≡ To to = rw is at (sym read) in
    record { top = top; address = address; found = address_of-calls s v (m - 1) (To to) e t top ∙ address }

-- with its own address, a call is refused a frame if all are in use
pub is_full-unhooked : (s : Inside) (v : CallStack) (n : ℕ) (to : Option CallNo) → stack_of s ≡ v → HasHookFrames s → IsUnhooked s v n to
    → is_full v ≡ (length s.shadow.frames == s.shadow.limit)
is_full-unhooked s v n to e t u =
    let no_frame = has_frame-unhooked v.calls to u.found in
    let limit : v.frame_limit ≡ s.shadow.limit = ap (λ (w : CallStack). w.frame_limit) (sym e) in
    rw (no_frame, frames_in-calls s v e t, limit) refl

-- the addresses, the latest first, with its own one on top
own_on_top : (s : Inside) (v : CallStack) (n : ℕ) (to : Option CallNo) → IsUnhooked s v n to → reverse s.addresses.items ≡ To to ∷ reverse (take n s.addresses.items)
own_on_top s v n to u =
    reverse-last s.addresses.items n (To to) u.top ∙ ap (λ (y : Address). y ∷ reverse (take n s.addresses.items)) u.address

-- the stacks with the latest call hooked
pub stack_hooked : (s : Inside) (v : CallStack) (shadow : Shadow) (n : ℕ) (to : Option CallNo) → stack_of s ≡ v → HasHookFrames s → IsUnhooked s v n to
    → shadow ≡ with_frame s.shadow to
    → stack_of (record s { addresses = with_item s.addresses n Hook; shadow = shadow }) ≡ record v { calls = with_hook v.calls }
stack_hooked s v shadow n to e t u h =
    let r = own_on_top s v n to u in
    let below : HooksHaveFrames s.running (To to ∷ reverse (take n s.addresses.items)) s.shadow.frames = rw r at t in
    let q = reverse-set_last s.addresses.items n Hook u.top in
    rw (← e) (rw (q, r, h, open_calls-hook s.running to (reverse (take n s.addresses.items)) s.shadow.frames below) refl)

-- and the addresses still fit
pub hooks_hooked : (s : Inside) (v : CallStack) (shadow : Shadow) (n : ℕ) (to : Option CallNo) → HasHookFrames s → IsUnhooked s v n to
    → shadow ≡ with_frame s.shadow to → HasHookFrames (record s { addresses = with_item s.addresses n Hook; shadow = shadow })
hooks_hooked s v shadow n to t u h =
    let r = own_on_top s v n to u in
    let below : HooksHaveFrames s.running (To to ∷ reverse (take n s.addresses.items)) s.shadow.frames = rw r at t in
    let q = reverse-set_last s.addresses.items n Hook u.top in
    rw (q, h) (HooksHaveFrames-hook s.running to (reverse (take n s.addresses.items)) s.shadow.frames below)

-- the latest call has a frame without users, and its address is at the place n
pub record IsUnused (s : Inside) (v : CallStack) (n : ℕ) : Type 0 where
  pub top : suc n ≡ length s.addresses.items
  pub has : has_frame v.calls ≡ true
  pub unused : (length (users_on s.shadow.frames) == 0) ≡ true

-- the addresses, the latest first, with the hook on top
hook_on_top : (s : Inside) (v : CallStack) (n : ℕ) → stack_of s ≡ v → HasHookFrames s → IsUnused s v n → reverse s.addresses.items ≡ Hook ∷ reverse (take n s.addresses.items)
hook_on_top s v n e t u =
    let x : get_or s.addresses.items n Hook ≡ Hook =
    sym (address_of-calls s v n Hook e t u.top) ∙ ap (λ (b : Bool). if b then Hook else To (caller_of v.calls)) u.has in
    reverse-last s.addresses.items n Hook u.top ∙ ap (λ (y : Address). y ∷ reverse (take n s.addresses.items)) x

-- the stacks with the latest call's frame taken away
pub stack_dropped : (s : Inside) (v : CallStack) (shadow : Shadow) (n : ℕ) (to : Option CallNo) → stack_of s ≡ v → HasHookFrames s → IsUnused s v n
    → to ≡ to_on s.shadow.frames → shadow.frames ≡ drop 1 s.shadow.frames → shadow.limit ≡ s.shadow.limit
    → stack_of (record s { addresses = with_item s.addresses n (To to); shadow = shadow }) ≡ record v { calls = without_empty v.calls }
stack_dropped s v shadow n to e t u address frames limit =
    let r = hook_on_top s v n e t u in
    let below : HooksHaveFrames s.running (Hook ∷ reverse (take n s.addresses.items)) s.shadow.frames = rw r at t in
    let q = reverse-set_last s.addresses.items n (To to) u.top in
    rw (← e) (rw (q, r, frames, limit, address, open_calls-drop s.running (reverse (take n s.addresses.items)) s.shadow.frames below u.unused) refl)

-- and the addresses still fit
pub hooks_dropped : (s : Inside) (v : CallStack) (shadow : Shadow) (n : ℕ) (to : Option CallNo) → stack_of s ≡ v → HasHookFrames s → IsUnused s v n
    → to ≡ to_on s.shadow.frames → shadow.frames ≡ drop 1 s.shadow.frames
    → HasHookFrames (record s { addresses = with_item s.addresses n (To to); shadow = shadow })
hooks_dropped s v shadow n to e t u address frames =
    let r = hook_on_top s v n e t u in
    let below : HooksHaveFrames s.running (Hook ∷ reverse (take n s.addresses.items)) s.shadow.frames = rw r at t in
    let q = reverse-set_last s.addresses.items n (To to) u.top in
    rw (q, frames, address) (HooksHaveFrames-drop s.running (reverse (take n s.addresses.items)) s.shadow.frames below)

-- a frame that was found without users
pub unused_at : (s : Inside) (v : CallStack) (m : ℕ) → stack_of s ≡ v → HasHookFrames s → m ≡ length s.addresses.items → 0 < length v.calls
    → has_frame v.calls ≡ true → (length (users_on s.shadow.frames) == 0) ≡ true → IsUnused s v (m - 1)
unused_at s v m e t h some has unused = record { top = place_of_top s v m e t h some; has = has; unused = unused }

-- a call whose frame has users stays as it is
pub used_stays : (s : Inside) (v : CallStack) → stack_of s ≡ v → HasHookFrames s → has_frame v.calls ≡ true → (length (users_on s.shadow.frames) == 0) ≡ false
    → v ≡ record v { calls = without_empty v.calls }
used_stays s v e t has used =
    let on = on_frame s v e t has in
    ap (λ (calls : List StackedCall). record v { calls = calls }) (sym (without_empty-used v.calls (users_on s.shadow.frames) on.users used))

-- and so does one without a frame
pub unhooked_stays : (v : CallStack) → has_frame v.calls ≡ false → v ≡ record v { calls = without_empty v.calls }
unhooked_stays v h = ap (λ (calls : List StackedCall). record v { calls = calls }) (sym (without_empty-unhooked v.calls h))
