-- Which logs are legal, said of their lines without a history that they tell: where a log may lack items, a rule asks whether some could have been
-- there. The lines are taken as items, each at the place of its line; a body that is marked `?` is as one by the list caller, which is asked
-- for nowhere. A law says that these are the logs of Recorded.
use Rattle.std.specs.Prelude.{ℕ, ◌≡◌, ◌<◌, ◌≤◌, ◌⊎◌, ◌==◌, true, false, List, [], ◌∷◌, ◌++◌, length, map}
use Rattle.std.specs.List.{list_any, AllByRecursion as Each}
use Rattle.ft_base.specs.declared.number.CallNo.{CallNo}
use Rattle.ft_base.specs.declared.number.UserNo.{UserNo}
use Rattle.ft_base.specs.declared.item.Item.{Item}
use Rattle.ft_base.specs.declared.item.Item.TheVariants.{Refuse, Miss, Body, Exit, Ret}
use Rattle.ft_base.specs.declared.item.Ran.TheVariants.{List as ByList}
use Rattle.ft_base.specs.declared.item.Reason.{Reason}
use Rattle.ft_base.specs.Job.{Job}
use Rattle.ft_base.specs.Desk.{desk, is_on, target}
use Rattle.ft_hist.specs.Past.{entry_of, since_now, visits}
use Rattle.ft_hist.specs.Rules.{AreExitsDone, InWindow, IsUnvisited, KeepsCommands, KeepsFetches, KeepsPlainRun, KeepsRefusals, MayMiss, MayRefuse, OneReplaces, OnlyThose, backs_with_replacement, replacement}
use Rattle.kernel_rules.specs.declared.line.ExitOrder.{ExitOrder}
use Rattle.kernel_rules.specs.declared.line.Line.{Line}
use Rattle.kernel_rules.specs.declared.line.Line.TheVariants.{Seen, Unfetched}
use Rattle.kernel_rules.specs.Rules.{IsAtEnd, KeepsCallbacks, MayExit, MayVisit}

-- the item of a line
abbrev pub item_of : Line → Item
item_of (Seen item) = item
item_of (Unfetched call func) = Body call func ByList

-- a refusal that the log lacks: of which user, for which reason, and before it these items
pub record Lacked : Type 0 where
  pub user : UserNo
  pub reason : Reason
  pub before : List Item

-- the registration of its user in the call
abbrev pub since_of : Job → CallNo → Lacked → ℕ
since_of job call r = since_now job call r.user.0 r.before

-- it could have been told there, its user is not visited in the call, and who the call visits from there on was registered before it
pub record CouldRefuse (job : Job) (past : List Item) (call : CallNo) (r : Lacked) : Type 0 where
  pub cut : (since : List Item) × (since ++ r.before ≡ past)
  pub run : KeepsPlainRun job r.before (Refuse call r.user r.reason)
  pub may : MayVisit job r.before call r.user.0
  pub why : MayRefuse job r.before call r.user.0 r.reason
  pub once : IsUnvisited job call r.user.0 past
  pub order : Each (λ m. length r.before ≤ m.place → m.since < since_of job call r) (visits job call past)

-- of two refusals that the log lacks, the second comes first: of another user, which was registered later
pub record ComesFirst (job : Job) (call : CallNo) (r s : Lacked) : Type 0 where
  pub earlier : length s.before ≤ length r.before
  pub other : (s.user.0 == r.user.0) ≡ false
  pub order : since_of job call r < since_of job call s

-- the refusals that the log lacks in a call, the latest first. They are taken together: where each alone could stand, they may not be in order
abbrev pub CouldLack : Job → List Item → CallNo → List Lacked → Type 0
CouldLack job past call [] = Unit {0}
CouldLack job past call (r ∷ rs) = CouldRefuse job past call r × Each (λ s. ComesFirst job call r s) rs × CouldLack job past call rs

-- whoever was not visited was off at some command of the window, or is of these
abbrev pub AreSilent : Job → List Item → CallNo → List Lacked → Type 0
AreSilent job past call rs = (u : ℕ) → u < length job.users → IsUnvisited job call u past
    → InWindow call past (λ k. is_on (desk job k) u (entry_of call past).func ≡ false) ⊎ (list_any (λ r. r.user.0 == u) rs ≡ true)

-- some refusals that the log may lack leave nobody else out
abbrev pub IsSilent : Job → List Item → CallNo → Type 0
IsSilent job past call = (rs : List Lacked) × CouldLack job past call rs × AreSilent job past call rs

abbrev pub KeepsSilence : Job → List Item → Item → Type 0
KeepsSilence job past (Body call g ran) = IsSilent job past call
KeepsSilence job past _ = Unit {0}

-- a miss that is due may lack
abbrev pub KeepsExits : ExitOrder → Job → List Item → Item → Type 0
KeepsExits by job past (Miss call u) = MayMiss job past call u.0
KeepsExits by job past (Exit call u entry) = MayExit by job past call u.0 entry
KeepsExits by job past (Ret call to) = AreExitsDone job past call
KeepsExits by job past _ = Unit {0}

-- a body that is marked `?`: some target of the window lets in those who were visited, and what runs is as ever
pub record CouldFetch (job : Job) (past : List Item) (call : CallNo) (g : ℕ) : Type 0 where
  pub only : InWindow call past (λ k. OnlyThose (target (desk job k) (entry_of call past).func) (visits job call past))
  pub one : OneReplaces (backs_with_replacement job (visits job call past))
  pub runs : g ≡ replacement job (entry_of call past).func (backs_with_replacement job (visits job call past))

abbrev pub LineFetches : Job → List Item → Line → Type 0
LineFetches job past (Seen item) = KeepsFetches job past item
LineFetches job past (Unfetched call func) = CouldFetch job past call func.0

-- a line may come after others, whose items these are
pub record MayFollow (by : ExitOrder) (job : Job) (past : List Item) (line : Line) : Type 0 where
  pub run : KeepsPlainRun job past (item_of line)
  pub callbacks' : KeepsCallbacks job past (item_of line)
  pub silence : KeepsSilence job past (item_of line)
  pub refusals : KeepsRefusals job past (item_of line)
  pub exits : KeepsExits by job past (item_of line)
  pub fetches : LineFetches job past line
  pub commands : KeepsCommands job past (item_of line)

-- each line may come after those before it, the latest first
unfoldable pub AreLegal : ExitOrder → Job → List Line → Type 0
AreLegal by job [] = Unit {0}
AreLegal by job (line ∷ lines) = MayFollow by job (map item_of lines) line × AreLegal by job lines

-- legal lines at whose end all commands have returned and each task is at the end of its run
abbrev pub AreWhole : ExitOrder → Job → List Line → Type 0
AreWhole by job lines = AreLegal by job lines × IsAtEnd job (map item_of lines)
