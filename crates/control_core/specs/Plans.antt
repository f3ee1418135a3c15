-- Desks and plans whose numbers are in a shape.
use Rattle.std.specs.Prelude.{ℕ, ◌≡◌, ◌<◌, ◌≤◌, length, All, Some}
use Rattle.ft_base.specs.declared.limits.TheConstants.{FUNCS}
use Rattle.ft_base.specs.Desk.{user_at}
use Rattle.word_map.specs.declared.shape.Shape.{Shape}
use Rattle.ops_list.specs.Names.{IsUserIn}
use Rattle.patch_core.specs.Moves.{IsChange}
use Rattle.ft_desk.specs.declared.plan.TrampChange.{TrampChange}
use Rattle.ft_desk.specs.declared.plan.TrampChange.TheVariants.{Keep as KeepTramp, Set, Clear}
use Rattle.ft_desk.specs.declared.plan.ListChange.{ListChange}
use Rattle.ft_desk.specs.declared.plan.ListChange.TheVariants.{Keep as KeepList, Push, Unlink}
use Rattle.ft_desk.specs.Declarations.{Declared}
use Rattle.ft_desk.specs.Plans.{PlainPlan}
use Rattle.ft_desk.specs.DeskView.{DeskView}

-- the numbers that are declared are those of the shape
pub record IsDeclaredIn (shape : Shape) (d : Declared) : Type 0 where
  pub users : length d.specs ≡ shape.users
  pub funcs : d.funcs ≡ shape.funcs
  pub tasks : d.tasks ≡ shape.tasks
  pub tramps : d.tramps ≡ shape.tramps

-- a desk of a shape: each user's filter has its functions, each slot is one of its trampolines, and its users are listed
pub record IsDeskIn (shape : Shape) (s : DeskView) : Type 0 where
  pub declared : IsDeclaredIn shape s.declared
  pub users : length s.state.users ≡ shape.users
  pub copies : length s.copies ≡ shape.users
  pub filters : (u : ℕ) → u < shape.users → length (user_at s.state u).filter ≡ shape.funcs
  pub slots : (u slot : ℕ) → (user_at s.state u).slot ≡ Some slot → slot < shape.tramps
  pub order : All (λ u. u < shape.users) s.order

-- a trampoline of the shape
abbrev pub IsTrampIn : Shape → TrampChange → Type 0
IsTrampIn shape KeepTramp = Unit {0}
IsTrampIn shape (Set slot reg) = slot < shape.tramps
IsTrampIn shape (Clear slot) = slot < shape.tramps

-- users of the shape
abbrev pub IsListIn : Shape → ListChange → Type 0
IsListIn shape KeepList = Unit {0}
IsListIn shape (Push first) = IsUserIn shape first
IsListIn shape (Unlink before after) = IsUserIn shape before × IsUserIn shape after

-- a plan of a shape
pub record IsPlanIn (shape : Shape) (p : PlainPlan) : Type 0 where
  pub user : IsUserIn shape p.user
  pub tramp : IsTrampIn shape p.tramp
  pub list : IsListIn shape p.list
  pub sites : All (IsChange shape) p.sites
  pub few : length p.sites ≤ FUNCS
