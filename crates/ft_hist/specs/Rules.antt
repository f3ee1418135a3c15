-- Which item may come after a past, and which histories are legal. Each item keeps seven parts, those of docs/RULES.md in its order: `MayFollow`.
use Rattle.std.specs.Prelude.{if◌then◌else◌, ℕ, suc, ◌≡◌, ◌<◌, ◌≤◌, ◌⊎◌, true, false, ◌&&◌, ◌==◌, List, [], ◌∷◌, length, reverse, Option, Some, None, is_some, slice_get, ◌-◌, IfSome, IsSome, Contains}
use Rattle.std.specs.List.{list_any, AllByRecursion as Each, filter}
use Rattle.ft_base.specs.declared.task.TaskAct.{TaskAct}
use Rattle.ft_base.specs.declared.task.TaskAct.TheVariants.{Call, Ret as RetAct, Raise, Lower, After}
use Rattle.ft_base.specs.declared.number.CallNo.{CallNo}
use Rattle.ft_base.specs.declared.number.FuncNo.{FuncNo}
use Rattle.ft_base.specs.declared.item.Reason.{Reason}
use Rattle.ft_base.specs.declared.item.Reason.TheVariants.{Pid as ByPid, Recursion, Depth}
use Rattle.ft_base.specs.declared.item.Ran.{Ran}
use Rattle.ft_base.specs.declared.item.Ran.TheVariants.{Nop, List as ByList, Own}
use Rattle.ft_base.specs.declared.item.Answer.{Answer}
use Rattle.ft_base.specs.declared.item.Item.{Item}
use Rattle.ft_base.specs.declared.item.Item.TheVariants.{Begin, Return, Back, Refuse, Miss, Body, Exit, Ret}
use Rattle.ft_base.specs.Items.{call_of}
use Rattle.ft_base.specs.Job.{Job, Command, takes_off, commands, command_at, waits_before}
use Rattle.ft_base.specs.Versions.{levels}
use Rattle.ft_base.specs.Desk.{spec_at, desk, is_on, is_live, is_allowed, target, answer_at, is_accepted}
use Rattle.ft_base.specs.Kinds.{has_depth, cancels}
use Rattle.ft_hist.specs.Past.{done, begun, entry_of, open_callbacks, is_called, visits, held, IsFrameLeft, AreFramesHeld, Visit, since_now, miss_due, exits, done_at_leave}
use Rattle.ft_hist.specs.Plain.{plain, PlainTask, Frame, Phase, Running}

-- a fact after the commands that have returned, or after those that have begun
abbrev pub AtReturnedOrBegun : List Item → (ℕ → Type 0) → Type 0
AtReturnedOrBegun past P = P (done past) ⊎ P (begun past)

-- a fact at some command between the last returned at the call's Enter and the last begun by now
abbrev pub InWindow : CallNo → List Item → (ℕ → Type 0) → Type 0
InWindow call past P = (k : ℕ) × ((entry_of call past).from ≤ k) × (k ≤ begun past) × P k

-- the user has had no callback and no refusal in the call
abbrev pub IsUnvisited : Job → CallNo → ℕ → List Item → Type 0
IsUnvisited job call u past = list_any (λ m. m.user == u) (visits job call past) ≡ false

-- ## the plain run

-- each task is still on its plain run
abbrev pub KeepsPlainRun : Job → List Item → Item → Type 0
KeepsPlainRun job past item = (t : ℕ) → IsSome (plain job t (item ∷ past))

-- ## callbacks

-- a visit: the user is on, for the first time in the call, and was registered before those visited so far
pub record MayVisit (job : Job) (past : List Item) (call : CallNo) (u : ℕ) : Type 0 where
  pub on : AtReturnedOrBegun past (λ k. is_on (desk job k) u (entry_of call past).func ≡ true)
  pub once : IsUnvisited job call u past
  pub order : Each (λ m. since_now job call u past < m.since) (visits job call past)

-- no callback of the user that a command takes off is open (ftrace-uses.rst, The ftrace_ops structure; fprobe.rst)
abbrev pub IsStill : List Item → Command → Type 0
IsStill past c = IfSome (takes_off c) (λ u. is_called u past ≡ false)

-- whoever is visited may be; and when a command was accepted and returns, the user that it takes off is still
abbrev pub KeepsCallbacks : Job → List Item → Item → Type 0
KeepsCallbacks job past (Back call u) = MayVisit job past call u.0
KeepsCallbacks job past (Refuse call u reason) = MayVisit job past call u.0
KeepsCallbacks job past (Return k answer) = is_accepted answer ≡ true → IfSome (command_at job k) (IsStill past)
KeepsCallbacks job past _ = Unit {0}

-- ## silence

-- whoever was not visited was off at some command of the window
abbrev pub IsSilent : Job → List Item → CallNo → Type 0
IsSilent job past call =
    (u : ℕ) → u < length job.users → IsUnvisited job call u past → InWindow call past (λ k. is_on (desk job k) u (entry_of call past).func ≡ false)

-- a dispatch ends in silence
abbrev pub KeepsSilence : Job → List Item → Item → Type 0
KeepsSilence job past (Body call g ran) = IsSilent job past call
KeepsSilence job past _ = Unit {0}

-- ## refusals

-- the pid rule for a user that is not refused for it
abbrev pub PassesPid : Job → List Item → CallNo → ℕ → Type 0
PassesPid job past call u = (spec_at job u).pid ≡ true → AtReturnedOrBegun past (λ k. is_allowed (desk job k) call.task.0 ≡ true)

-- a level of the guard of the call's task and context is free (ftrace-uses.rst, Protect your callback)
abbrev pub IsFree : Job → List Item → CallNo → Type 0
IsFree job past call = open_callbacks call.task.0 (entry_of call past).ctx past < levels job

-- whoever is called back passes the pid rule, finds a level of the guard free, and if it is a graph or profile user finds a frame and is
-- within the graph depth (ftrace.rst, The File System: max_graph_depth)
pub record PassesAll (job : Job) (past : List Item) (call : CallNo) (u : ℕ) : Type 0 where
  pub pid : PassesPid job past call u
  pub free : IsFree job past call
  pub room : has_depth (spec_at job u).kind ≡ true → IsFrameLeft job past call
  pub level : has_depth (spec_at job u).kind ≡ true → AtReturnedOrBegun past (λ k. ((desk job k).depth ≡ 0) ⊎ (held job call past < (desk job k).depth))

-- the reason of a refusal
abbrev pub MayRefuse : Job → List Item → CallNo → ℕ → Reason → Type 0
MayRefuse job past call u ByPid =
    ((spec_at job u).pid ≡ true) × AtReturnedOrBegun past (λ k. is_allowed (desk job k) call.task.0 ≡ false)
MayRefuse job past call u Recursion =
    PassesPid job past call u × (levels job ≤ open_callbacks call.task.0 (entry_of call past).ctx past)
MayRefuse job past call u Depth =
    PassesPid job past call u × IsFree job past call
    × (has_depth (spec_at job u).kind ≡ true)
    × (AreFramesHeld job past call ⊎ AtReturnedOrBegun past (λ k. (0 < (desk job k).depth) × ((desk job k).depth ≤ held job call past)))

-- a user is refused for the first reason that holds, and called back only if none does
abbrev pub KeepsRefusals : Job → List Item → Item → Type 0
KeepsRefusals job past (Back call u) = PassesAll job past call u.0
KeepsRefusals job past (Refuse call u reason) = MayRefuse job past call u.0 reason
KeepsRefusals job past _ = Unit {0}

-- ## exits

-- no Miss is due in the call's task
abbrev pub NoMissDue : Job → List Item → CallNo → Type 0
NoMissDue job past call = miss_due job call.task.0 past ≡ None

-- a Miss is the one that is due
abbrev pub MayMiss : Job → List Item → CallNo → ℕ → Type 0
MayMiss job past call u =
    IfSome (miss_due job call.task.0 past) (λ m. (m.call ≡ call) × (m.user ≡ u)) × IsSome (miss_due job call.task.0 past)

-- the Back that set up an exit
abbrev pub HasExit : Job → Visit → Type 0
HasExit job m = (m.back ≡ true) × (m.framed ≡ true) × (cancels (spec_at job m.user).kind ≡ false)

-- an exit: of a Back of that user in the call, after the exits of earlier Backs, while its registration is live
pub record MayExit (job : Job) (past : List Item) (call : CallNo) (u entry : ℕ) : Type 0 where
  pub of : (m : Visit) × Contains (visits job call past) m × (m.user ≡ u) × (m.place ≡ entry) × HasExit job m
      × AtReturnedOrBegun past (λ k. is_live (desk job k) u m.reg ≡ true)
  pub order : Each (λ e. e < entry) (exits call past)

-- a registration was not live at some command since the call's Leave
abbrev pub IsDead : Job → CallNo → ℕ → ℕ → List Item → Type 0
IsDead job call u r past = (j : ℕ) × (done_at_leave call past ≤ j) × (j ≤ begun past) × (is_live (desk job j) u r ≡ false)

-- a Back that set up an exit has had it, or its registration is dead
abbrev pub IsExitDone : Job → CallNo → Visit → List Item → Type 0
IsExitDone job call m past = (list_any (λ e. e == m.place) (exits call past) ≡ true) ⊎ IsDead job call m.user m.reg past

-- at a Ret, each exit of the call is done
abbrev pub AreExitsDone : Job → List Item → CallNo → Type 0
AreExitsDone job past call = Each (λ m. HasExit job m → IsExitDone job call m past) (visits job call past)

-- a Miss comes when it is due, an exit may come, and all are done at the return
abbrev pub KeepsExits : Job → List Item → Item → Type 0
KeepsExits job past (Miss call u) = MayMiss job past call u.0
KeepsExits job past (Exit call u entry) = MayExit job past call u.0 entry × NoMissDue job past call
KeepsExits job past (Ret call to) = AreExitsDone job past call × NoMissDue job past call
KeepsExits job past item = IfSome (call_of item) (NoMissDue job past)

-- ## fetches

-- whom a fetched instruction lets in
abbrev pub OnlyThose : Ran → List Visit → Type 0
OnlyThose Nop ms = ms ≡ []
OnlyThose ByList ms = Unit {0}
OnlyThose (Own u) ms = Each (λ m. m.user ≡ u.0) ms

-- the entry callbacks in a call of users that replace the function
abbrev pub backs_with_replacement : Job → List Visit → List Visit
backs_with_replacement job ms = filter (λ m. m.back && is_some (spec_at job m.user).ipmodify) ms

-- at most one such callback
abbrev pub OneReplaces : List Visit → Type 0
OneReplaces ms = length ms ≤ 1

-- what runs: the replacement of the user that was called back, else the function
abbrev pub replacement : Job → ℕ → List Visit → ℕ
replacement job f [] = f
replacement job f (m ∷ ms) = by_option (spec_at job m.user).ipmodify
  where
    by_option : Option FuncNo → ℕ
    by_option None = f
    by_option (Some g) = g.0

-- what was fetched was the site's target at some command of the window and lets in those who were visited, at most one user replaced
-- the function, and its replacement runs
pub record IsFetched (job : Job) (past : List Item) (call : CallNo) (g : ℕ) (ran : Ran) : Type 0 where
  pub fetched : InWindow call past (λ k. ran ≡ target (desk job k) (entry_of call past).func)
  pub only : OnlyThose ran (visits job call past)
  pub one : OneReplaces (backs_with_replacement job (visits job call past))
  pub runs : g ≡ replacement job (entry_of call past).func (backs_with_replacement job (visits job call past))

-- a Body is of such a fetch
abbrev pub KeepsFetches : Job → List Item → Item → Type 0
KeepsFetches job past (Body call g ran) = IsFetched job past call g.0 ran
KeepsFetches job past _ = Unit {0}

-- ## commands

-- a Begin: of the next command, if none is under way
pub record MayBegin (job : Job) (past : List Item) (k : ℕ) : Type 0 where
  pub number : k ≡ suc (begun past)
  pub follows : begun past ≡ done past
  pub stands : begun past < length (commands job)

-- how many acts a task has done, those without items counted as soon as they are next
abbrev pub acts_passed : PlainTask → ℕ
acts_passed s = acts_passed_with s.gone s.acts s.stack
  where
    past_silent : ℕ → List TaskAct → ℕ
    past_silent n [] = n
    past_silent n (Call f ∷ rest) = n
    past_silent n (RetAct ∷ rest) = n
    past_silent n (_ ∷ rest) = past_silent (suc n) rest

    acts_passed_with : ℕ → List TaskAct → List Frame → ℕ
    acts_passed_with n acts [] = past_silent n acts
    acts_passed_with n acts (t ∷ below) = by_phase t.phase
      where
        by_phase : Phase → ℕ
        by_phase Running = if t.scripted then past_silent n acts else n - 1
        by_phase _ = n - 1

-- the waits before control's next command are met
abbrev pub HasWaited : Job → List Item → Type 0
HasWaited job past = Each (λ w. IfSome (plain job w.0 past) (λ s. w.1 ≤ acts_passed s)) (waits_before (begun past) job.ctls)

-- a Return: of the command under way, with its answer
pub record IsAnswered (job : Job) (past : List Item) (k : ℕ) (answer : Answer) : Type 0 where
  pub number : k ≡ suc (done past)
  pub follows : begun past ≡ suc (done past)
  pub command : (c : Command) × (slice_get (commands job) (done past) ≡ Some c) × (answer ≡ answer_at job (done past) c)

-- commands begin after control's waits, and return with the answers of the desk
abbrev pub KeepsCommands : Job → List Item → Item → Type 0
KeepsCommands job past (Begin k) = MayBegin job past k × HasWaited job past
KeepsCommands job past (Return k answer) = IsAnswered job past k answer
KeepsCommands job past _ = Unit {0}

-- ## histories

-- an item may come after a past
pub record MayFollow (job : Job) (past : List Item) (item : Item) : Type 0 where
  pub run : KeepsPlainRun job past item
  pub callbacks : KeepsCallbacks job past item
  pub silence : KeepsSilence job past item
  pub refusals : KeepsRefusals job past item
  pub exits : KeepsExits job past item
  pub fetches : KeepsFetches job past item
  pub commands : KeepsCommands job past item

-- each item may come after those before it, the latest first
unfoldable pub IsLegalPast : Job → List Item → Type 0
IsLegalPast job [] = Unit {0}
IsLegalPast job (item ∷ past) = MayFollow job past item × IsLegalPast job past

-- a history is legal
unfoldable pub IsLegal : Job → List Item → Type 0
IsLegal job items = IsLegalPast job (reverse items)

-- these acts give no items, and their waits are met by this many returned commands
abbrev pub GiveNoItems : ℕ → List TaskAct → Type 0
GiveNoItems returned [] = Unit {0}
GiveNoItems returned (Call f ∷ rest) = ⊥
GiveNoItems returned (RetAct ∷ rest) = ⊥
GiveNoItems returned (Raise c ∷ rest) = GiveNoItems returned rest
GiveNoItems returned (Lower ∷ rest) = GiveNoItems returned rest
GiveNoItems returned (After n ∷ rest) = (n ≤ returned) × GiveNoItems returned rest

-- a task at the end of its run: it has only such acts left, and no call is open
abbrev pub HasEnded : ℕ → PlainTask → Type 0
HasEnded returned s = GiveNoItems returned s.acts × (s.stack ≡ [])

-- a legal history in which all commands have returned and each task is at the end of its run
pub record IsWhole (job : Job) (items : List Item) : Type 0 where
  pub legal : IsLegal job items
  pub returned : done (reverse items) ≡ length (commands job)
  pub tasks : (t : ℕ) → t < length job.tasks → IfSome (plain job t (reverse items)) (HasEnded (done (reverse items)))
