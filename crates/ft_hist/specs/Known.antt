-- What is known of an open call by the words on its past alone: whom it may still call back, and which exits it still owes.
use Rattle.std.specs.Prelude.{ℕ, ◌≡◌, ◌<◌, ◌⊎◌, Bool, true, false, List, [], ◌∷◌}
use Rattle.std.specs.List.{AllByRecursion as Each}
use Rattle.ft_base.specs.declared.number.CallNo.{CallNo}
use Rattle.ft_base.specs.declared.item.Item.{Item}
use Rattle.ft_base.specs.Job.{Job}
use Rattle.ft_base.specs.Desk.{desk, is_on}
use Rattle.ft_hist.specs.Past.{all_visits, visits, Visit, holds_frame, exits}
use Rattle.ft_hist.specs.Rules.{InWindow, IsUnvisited, HasExit, IsExitDone}
use Rattle.ft_hist.specs.Frames.{FrameUser, IsOwed, is_among, Rises}

-- a user was off at some command of the window so far
abbrev pub WasOff : Job → CallNo → ℕ → ℕ → List Item → Type 0
WasOff job call f u past = InWindow call past (λ k. is_on (desk job k) u f ≡ false)

-- whoever has not been visited is still to come, or was off at some command of the window so far
abbrev pub Watches : Job → CallNo → ℕ → List Item → (ℕ → Bool) → Type 0
Watches job call f past todo = (u : ℕ) → IsUnvisited job call u past → (todo u ≡ true) ⊎ WasOff job call f u past

-- each of these visits, the latest first, is of a user that was registered before those that were visited earlier
abbrev pub Sinks : List Visit → Type 0
Sinks [] = Unit {0}
Sinks (m ∷ ms) = Each (λ x. m.since < x.since) ms × Sinks ms

-- whether a call holds a frame now
abbrev pub holds : Job → List Item → CallNo → Bool
holds job past c = holds_frame job c past (all_visits job past)

-- the exit of a visit is still to come, or done
abbrev pub Fate : Job → CallNo → Visit → List FrameUser → List Item → Type 0
Fate job call m rest past = (is_among m rest ≡ true) ⊎ IsExitDone job call m past

-- A call that has left, with these visits, and with these users still to have their exits.
--   those          the visits are those of the call
--   owed, rises    the exits to come are of Backs that set one up, in their order
--   before         they come after the exits that the call has had
--   all            the exit of each Back that set one up is still to come, or done
pub record ExitsSo (job : Job) (call : CallNo) (ms : List Visit) (past : List Item) (rest : List FrameUser) : Type 0 where
  pub those : visits job call past ≡ ms
  pub owed : Each (IsOwed job ms) rest
  pub rises : Rises rest
  pub before : Each (λ e. Each (λ y. e < y.entry) rest) (exits call past)
  pub all : Each (λ m. HasExit job m → Fate job call m rest past) ms
