-- The users of a call's frame on the shadow stack, and what they have to do with the call's Backs.
use Rattle.std.specs.Prelude.{ℕ, ◌≡◌, ◌<◌, Bool, true, false, not, ◌&&◌, ◌==◌, List, [], ◌∷◌, Option, Some, None, Contains}
use Rattle.std.specs.List.{list_any, AllByRecursion as Each}
use Rattle.ft_base.specs.declared.number.FuncNo.{FuncNo}
use Rattle.ft_base.specs.Job.{Job}
use Rattle.ft_base.specs.Desk.{spec_at}
use Rattle.ft_base.specs.Kinds.{cancels}
use Rattle.ft_hist.specs.Past.{Visit}
use Rattle.ft_hist.specs.Rules.{HasExit}

-- a user whose exit a call's frame owes: its registration, and the place of its Back
pub record FrameUser : Type 0 where
  pub user : ℕ
  pub reg : ℕ
  pub entry : ℕ

-- the function that runs after one more user was called back
abbrev pub runs_after : FuncNo → Option FuncNo → FuncNo
runs_after g None = g
runs_after g (Some f) = f

-- whether a list has nothing
abbrev pub is_nil : {A : Type 0} → List A → Bool
is_nil [] = true
is_nil (x ∷ xs) = false

-- a user of a frame comes from a Back of the call that wants its exit
abbrev pub IsOwed : Job → List Visit → FrameUser → Type 0
IsOwed job ms x = (m : Visit) × Contains ms m × (m.user ≡ x.user) × (m.place ≡ x.entry) × (m.reg ≡ x.reg) × HasExit job m

-- whether a user of a frame is that of a visit
abbrev pub is_user_of : Visit → FrameUser → Bool
is_user_of m x = (x.user == m.user) && (x.reg == m.reg) && (x.entry == m.place)

-- whether the user of a visit is in a frame
abbrev pub is_among : Visit → List FrameUser → Bool
is_among m users = list_any (λ x. is_user_of m x) users

-- the Backs stand in this order
abbrev pub Rises : List FrameUser → Type 0
Rises [] = Unit {0}
Rises (x ∷ xs) = Each (λ y. x.entry < y.entry) xs × Rises xs

-- whether a visit keeps the call's frame past the Body
abbrev pub keeps_frame : Job → Visit → Bool
keeps_frame job m = m.framed && not (cancels (spec_at job m.user).kind)

-- a frame's users are those whose exits the call owes
pub record FrameOf (job : Job) (ms : List Visit) (users : List FrameUser) : Type 0 where
  pub owed : Each (IsOwed job ms) users
  pub all : Each (λ m. HasExit job m → is_among m users ≡ true) ms
  pub rises : Rises users
  pub kept : list_any (λ m. keeps_frame job m) ms ≡ not (is_nil users)
