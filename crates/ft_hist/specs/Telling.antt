-- The words in which the laws of histories are told: whose item it is, and facts at the commands of a window.
use Rattle.std.specs.Prelude.{ℕ, ◌≡◌, ◌≤◌, ◌⊎◌, Bool, true, false, ◌&&◌, ◌==◌, List, ◌∷◌, ◌++◌, Some, reverse, take}
use Rattle.std.specs.List.{filter}
use Rattle.ft_base.specs.declared.number.CallNo.{CallNo}
use Rattle.ft_base.specs.declared.item.Item.{Item}
use Rattle.ft_base.specs.declared.item.Item.TheVariants.{Begin, Return, Back, BackEnd, Refuse, Exit, ExitEnd, Ret}
use Rattle.ft_base.specs.Same.{same_call}
use Rattle.ft_base.specs.declared.number.UserNo.{UserNo}
use Rattle.ft_base.specs.Job.{Job, Command, takes_off}
use Rattle.ft_base.specs.Desk.{spec_at}
use Rattle.ft_base.specs.Kinds.{has_depth, has_exit, cancels}
use Rattle.ft_hist.specs.Past.{done, begun, calls, AreFramesHeld, is_open, since_now, user_now}
use Rattle.ft_hist.specs.Rules.{IsDead}

-- the items before a place, the latest first
abbrev pub past_at : ℕ → List Item → List Item
past_at place items = reverse (take place items)

-- a task's open calls, the latest first
abbrev pub open_calls : ℕ → List Item → List CallNo
open_calls t past = filter (λ c. (c.task.0 == t) && is_open c past) (calls past)

-- an entry callback or a refusal of the user in the call
abbrev pub is_visit_by : CallNo → ℕ → Item → Bool
is_visit_by call u (Back c v) = same_call c call && (v.0 == u)
is_visit_by call u (Refuse c v reason) = same_call c call && (v.0 == u)
is_visit_by call u _ = false

-- a callback of the user in the call begins
abbrev pub is_begin_by : CallNo → ℕ → Item → Bool
is_begin_by call u (Back c v) = same_call c call && (v.0 == u)
is_begin_by call u (Exit c v entry) = same_call c call && (v.0 == u)
is_begin_by call u _ = false

-- the exit callback in the call for the entry callback at this place
abbrev pub is_exit_for : CallNo → ℕ → Item → Bool
is_exit_for call entry (Exit c v e) = same_call c call && (e == entry)
is_exit_for call entry _ = false

-- the end of a callback of the user in the call
abbrev pub is_end_by : CallNo → ℕ → Item → Bool
is_end_by call u (BackEnd c v) = same_call c call && (v.0 == u)
is_end_by call u (ExitEnd c v) = same_call c call && (v.0 == u)
is_end_by call u _ = false

-- the call returns
abbrev pub is_ret_of : CallNo → Item → Bool
is_ret_of call (Ret c to) = same_call c call
is_ret_of call _ = false

-- a mark of a command: it begins, or returns
abbrev pub is_command : Item → Bool
is_command (Begin k) = true
is_command (Return k a) = true
is_command _ = false

-- the command of this number, from 1, returns
abbrev pub is_return_of : ℕ → Item → Bool
is_return_of n (Return k a) = k == n
is_return_of n _ = false

-- the number of the command that registered the user, as a callback or a refusal in the call reads it after these items
abbrev pub since_at : Job → CallNo → ℕ → List Item → ℕ
since_at job call u items = since_now job call u (reverse items)

-- a fact after some command of the window: from the commands that had returned after the items of `start`, to those that had
-- begun after the items of `end'`
abbrev pub AtSomeCommand : List Item → List Item → (ℕ → Type 0) → Type 0
AtSomeCommand start end' P = (k : ℕ) × (done (reverse start) ≤ k) × (k ≤ begun (reverse end')) × P k

-- the fact after each command of that window
abbrev pub AtEachCommand : List Item → List Item → (ℕ → Type 0) → Type 0
AtEachCommand start end' P = (k : ℕ) → done (reverse start) ≤ k → k ≤ begun (reverse end') → P k

-- the command takes the user off: it unregisters or disables it
abbrev pub TakesOff : Command → ℕ → Type 0
TakesOff c u = takes_off c ≡ Some u

-- why an entry callback after the items of `first` may have no exit by the return that comes after those of `second`: its user has
-- none; or cancels it; or the shadow stack was full; or its registration was not live after some command since the call's Leave
abbrev pub MayLackExit : Job → List Item → List Item → CallNo → UserNo → Type 0
MayLackExit job first second call user =
    ((has_depth (spec_at job user.0).kind ≡ false) × (has_exit (spec_at job user.0).kind ≡ false))
    ⊎ ((cancels (spec_at job user.0).kind ≡ true)
    ⊎ (((has_depth (spec_at job user.0).kind ≡ false) × AreFramesHeld job (reverse first) call)
    ⊎ IsDead job call user.0 (user_now job call user.0 (reverse first)).reg (reverse (first ++ Back call user ∷ second))))
