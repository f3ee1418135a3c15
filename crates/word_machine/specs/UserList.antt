-- The rule of the list of registered users: what the links give, and where a walker is.
use Rattle.std.specs.Prelude.{ℕ, ◌≡◌, ◌⊎◌, true, nat_lt, List, [], ◌∷◌, if◌then◌else◌}
use Rattle.ft_base.specs.Job.{Job}
use Rattle.ft_base.specs.Desk.{desk, user_at}
use Rattle.ft_base.specs.Order.{IsOrder, has}
use Rattle.word_map.specs.Chains.{Leads}
use Rattle.word_machine.specs.Commands.{Removes, effect, subject}
use Rattle.word_machine.specs.Control.{Position, Relink, name_of}
use Rattle.word_machine.specs.Progress.{listed, desk_by, HoldsAt, is_adds}

-- the command that registered a user last
abbrev pub since_of : Job → ℕ → ℕ → ℕ
since_of job k u = (user_at (desk job k) u).since

-- those of the users, the latest first, that were registered before a command
abbrev pub older : (ℕ → ℕ) → ℕ → List ℕ → List ℕ
older since b [] = []
older since b (u ∷ us) = if nat_lt (since u) b then u ∷ us else older since b us

-- the desk that the list is of
abbrev pub list_desk : Position → ℕ → ℕ
list_desk p d = desk_by (listed p) d

-- before the head of the list is stored, the link of the user that is added leads to the others. Otherwise a walker that loads the new
-- head would lose them
abbrev pub PushedAt : Job → ℕ → (ℕ → ℕ) → List ℕ → Position → Type 0
PushedAt job d link order Relink = is_adds (effect job d) ≡ true → link (subject job d) ≡ name_of order
PushedAt job d link order _ = Unit {0}

-- The list of users.
--   order'   control's own list is that of the desk, so it stores the right link
--   leads    the words give control's list. Otherwise a walker would miss a user, or call one that is not registered
--   pushed   a user is linked before it is put at the head
pub record UserList (job : Job) (d : ℕ) (p : Position) (order : List ℕ) (first : ℕ) (link : ℕ → ℕ) : Type 0 where
  pub order' : IsOrder (desk job (list_desk p d)) (list_desk p d) order
  pub leads : Leads link first order
  pub pushed : PushedAt job d link order p

-- the user that the command under way has taken off the list, for a task that holds the command
abbrev pub Unlinked : Job → ℕ → Position → ℕ → ℕ → ℕ → Type 0
Unlinked job d p request q u = (listed p ≡ true) × (effect job d ≡ Removes) × (u ≡ subject job d) × HoldsAt (effect job d) p request q

-- A walker is at a user of the list, or at the one that was taken off, whose link still leads to the older ones. Otherwise the walker
-- would not come to them, and they would miss a call during which they were on
abbrev pub ListWalk : (ℕ → ℕ) → (ℕ → ℕ) → List ℕ → Type 0 → ℕ → Type 0
ListWalk link since order gone u = (has u order ≡ true) ⊎ (gone × Leads link (link u) (older since (since u) order))
