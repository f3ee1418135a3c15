-- Which histories are legal under the profile `kernel`: those of `ft_hist`'s Rules with three clauses as kernels keep them.
--   A callback or an exit may come although a command that has returned took its user off, if that waits for no callback: all do but
--   unregistrations.
--   Only an unregistration waits for the callbacks that are open.
--   The exits of a call may come in the opposite order of their entry callbacks.
use Rattle.std.specs.Prelude.{ℕ, ◌≡◌, ◌<◌, ◌≤◌, Bool, true, false, ◌&&◌, ◌==◌, List, [], ◌∷◌, length, reverse, Option, Some, None, IfSome, Contains}
use Rattle.std.specs.List.{AllByRecursion as Each}
use Rattle.ft_base.specs.declared.number.CallNo.{CallNo}
use Rattle.ft_base.specs.declared.item.Item.{Item}
use Rattle.ft_base.specs.declared.item.Item.TheVariants.{Return, Back, Refuse, Exit}
use Rattle.ft_base.specs.Job.{Job, Command, Unregister, commands, command_at}
use Rattle.ft_base.specs.Desk.{Desk, desk, user_at, is_on, is_live, is_accepted}
use Rattle.ft_hist.specs.Past.{done, begun, entry_of, is_called, visits, Visit, since_now, exits, done_at_leave}
use Rattle.ft_hist.specs.Plain.{plain}
use Rattle.ft_hist.specs.Rules as strict
use Rattle.ft_hist.specs.Rules.{IsUnvisited, HasExit, NoMissDue, HasEnded, KeepsPlainRun, KeepsSilence, KeepsRefusals, KeepsFetches, KeepsCommands}
use Rattle.kernel_rules.specs.declared.line.ExitOrder.{ExitOrder}
use Rattle.kernel_rules.specs.declared.line.ExitOrder.TheVariants.{AsEntered, Reversed}

-- ## late callbacks and exits

-- the user is registered under this number, enabled or not, and whatever its sets are
abbrev pub is_registered : Desk → ℕ → ℕ → Bool
is_registered desk u r = (user_at desk u).registered && ((user_at desk u).reg == r)

-- the registration that a user had after k commands wasn't ended by an unregistration that has returned
abbrev pub HasStayed : Job → List Item → ℕ → ℕ → Type 0
HasStayed job past u k = k ≤ done past → is_registered (desk job (done past)) u (user_at (desk job k) u).reg ≡ true

-- a fact of a user at some command from this one to the last begun, whose registration has stayed
abbrev pub AtSome : Job → List Item → ℕ → ℕ → (ℕ → Type 0) → Type 0
AtSome job past u from P = (k : ℕ) × (from ≤ k) × (k ≤ begun past) × P k × HasStayed job past u k

-- ## callbacks

-- a visit: the user is on at some command of the window, for the first time in the call, and was registered before those visited so far
pub record MayVisit (job : Job) (past : List Item) (call : CallNo) (u : ℕ) : Type 0 where
  pub on : AtSome job past u (entry_of call past).from (λ k. is_on (desk job k) u (entry_of call past).func ≡ true)
  pub once : IsUnvisited job call u past
  pub order : Each (λ m. since_now job call u past < m.since) (visits job call past)

-- the user that a command unregisters
abbrev pub unregisters : Command → Option ℕ
unregisters (Unregister u) = Some u
unregisters _ = None

-- no callback of the user that a command unregisters is open
abbrev pub IsStill : List Item → Command → Type 0
IsStill past c = IfSome (unregisters c) (λ u. is_called u past ≡ false)

-- whoever is visited may be; and when a command was accepted and returns, the user that it unregisters is still
abbrev pub KeepsCallbacks : Job → List Item → Item → Type 0
KeepsCallbacks job past (Back call u) = MayVisit job past call u.0
KeepsCallbacks job past (Refuse call u reason) = MayVisit job past call u.0
KeepsCallbacks job past (Return k answer) = is_accepted answer ≡ true → IfSome (command_at job k) (IsStill past)
KeepsCallbacks job past _ = Unit {0}

-- ## exits

-- an exit of this entry callback comes after that of another
abbrev pub ComesAfter : ExitOrder → ℕ → ℕ → Type 0
ComesAfter AsEntered entry other = other < entry
ComesAfter Reversed entry other = entry < other

-- an exit: of a Back of that user in the call, after the exits that come before it, its registration live at some command since the Leave
pub record MayExit (by : ExitOrder) (job : Job) (past : List Item) (call : CallNo) (u entry : ℕ) : Type 0 where
  pub of : (m : Visit) × Contains (visits job call past) m × (m.user ≡ u) × (m.place ≡ entry) × HasExit job m
      × AtSome job past u (done_at_leave call past) (λ k. is_live (desk job k) u m.reg ≡ true)
  pub order : Each (λ e. ComesAfter by entry e) (exits call past)

-- exits are those of the profile; misses and returns are as ever
abbrev pub KeepsExits : ExitOrder → Job → List Item → Item → Type 0
KeepsExits by job past (Exit call u entry) = MayExit by job past call u.0 entry × NoMissDue job past call
KeepsExits by job past item = strict.KeepsExits job past item

-- ## histories

-- an item may come after a past
pub record MayFollow (by : ExitOrder) (job : Job) (past : List Item) (item : Item) : Type 0 where
  pub run : KeepsPlainRun job past item
  pub callbacks : KeepsCallbacks job past item
  pub silence : KeepsSilence job past item
  pub refusals : KeepsRefusals job past item
  pub exits : KeepsExits by job past item
  pub fetches : KeepsFetches job past item
  pub commands : KeepsCommands job past item

-- each item may come after those before it, the latest first
unfoldable pub IsLegalPast : ExitOrder → Job → List Item → Type 0
IsLegalPast by job [] = Unit {0}
IsLegalPast by job (item ∷ past) = MayFollow by job past item × IsLegalPast by job past

-- a history is legal
unfoldable pub IsLegal : ExitOrder → Job → List Item → Type 0
IsLegal by job items = IsLegalPast by job (reverse items)

-- all commands have returned, and each task is at the end of its run
pub record IsAtEnd (job : Job) (past : List Item) : Type 0 where
  pub returned : done past ≡ length (commands job)
  pub tasks : (t : ℕ) → t < length job.tasks → IfSome (plain job t past) (HasEnded (done past))

-- a legal history that is at its end
pub record IsWhole (by : ExitOrder) (job : Job) (items : List Item) : Type 0 where
  pub legal : IsLegal by job items
  pub end' : IsAtEnd job (reverse items)
