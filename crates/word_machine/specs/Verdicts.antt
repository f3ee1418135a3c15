-- The rule of a call between its Enter and its Body: what its dispatch has loaded, and what it will therefore do, is true of the desk
-- after the commands that have returned, or after the one under way.
use Rattle.std.specs.Prelude.{ℕ, suc, ◌≡◌, ◌<◌, ◌≤◌, ◌⊎◌, Bool, true, false, not, ◌==◌, nat_lt, nat_le, List, [], Option, Some}
use Rattle.std.specs.List.{AllByRecursion as Each}
use Rattle.ft_base.specs.declared.number.CallNo.{CallNo}
use Rattle.ft_base.specs.declared.item.Ran.{Ran}
use Rattle.ft_base.specs.declared.item.Ran.TheVariants.{Nop, List as ByList, Own}
use Rattle.ft_base.specs.declared.item.Reason.{Reason}
use Rattle.ft_base.specs.declared.item.Reason.TheVariants.{Pid as ByPid, Recursion, Depth as ByDepth}
use Rattle.ft_base.specs.declared.item.Item.{Item}
use Rattle.ft_base.specs.Job.{Job}
use Rattle.ft_base.specs.Desk.{desk, spec_at, is_on, is_sited, is_live, is_allowed, target}
use Rattle.ft_base.specs.Kinds.{has_depth}
use Rattle.ft_hist.specs.Past.{Visit, visits}
use Rattle.ft_hist.specs.Rules.{InWindow, OnlyThose}
use Rattle.ft_hist.specs.Plain.{owed_by}
use Rattle.ft_hist.specs.Dispatch.{Walk, is_full, misses_frame, CallSo}
use Rattle.word_machine.specs.Commands.{insn, effect, state_of}
use Rattle.word_machine.specs.Control.{Position}
use Rattle.word_machine.specs.Task.{OpenCall, Moment, Fetch, GotHead, GotBreak, InTramp, OwnSel, AtFirst, TestSel, TestFilter, TestNotrace, AtPids, AtDepth, Refusing, Calling, Missing, Acting, Ending, AtLink, Closing, around, level_of}
use Rattle.word_machine.specs.Progress.{SeenAt, selected, pids_stored, depth_stored}
use Rattle.word_machine.specs.Sites.{FetchAt, stage}
use Rattle.word_machine.specs.UserList.{since_of, list_desk, Unlinked, ListWalk}
use Rattle.word_machine.specs.HashCopies.{ReaderAt, InFilter, InNotrace}
use Rattle.word_machine.specs.Trampolines.{IsOwned}

-- what the facts on tasks read of control and of the words: how many commands have returned, control's position, its requests, those
-- before the batch, its list of users, the copies in use, the links and the copies of sets
pub record Here : Type 0 where
  pub d : ℕ
  pub p : Position
  pub base : ℕ
  pub request : ℕ
  pub order : List ℕ
  pub copies : ℕ → ℕ
  pub link : ℕ → ℕ
  pub bits : ℕ → ℕ → ℕ → ℕ → ℕ

-- a fact of the desk after the commands that have returned, or after the one under way; q is the low half of the task's quiet word
abbrev pub Seen : Job → Here → ℕ → Bool → (ℕ → Type 0) → Type 0
Seen job h q stored P = SeenAt stored (effect job h.d) h.p h.request q (P h.d) (P (suc h.d))

-- the user is on at the function, and has this registration number. Otherwise somebody would be called back who is off
abbrev pub Found : Job → Here → ℕ → ℕ → ℕ → ℕ → Type 0
Found job h q u reg f = Seen job h q (selected h.p) (λ k. (is_on (desk job k) u f ≡ true) × ((state_of job k u).reg ≡ reg))

-- the registration is live. Otherwise the exit of an old registration would be called
abbrev pub SeenLive : Job → Here → ℕ → ℕ → ℕ → Type 0
SeenLive job h q u reg = Seen job h q (selected h.p) (λ k. is_live (desk job k) u reg ≡ true)

-- a user that was visited is on at the function, under the registration of that visit. Otherwise one of its callbacks could be open when
-- the command that takes it off returns
abbrev pub SeenVisit : Job → Here → ℕ → Visit → ℕ → Type 0
SeenVisit job h q m f = Seen job h q (selected h.p) (λ k. (is_on (desk job k) m.user f ≡ true) × (since_of job k m.user ≡ m.since))

-- ## who may still come

-- who may still be visited before user u of the list is: u and those registered before it. In a trampoline the target alone says that
-- nobody else is let in
abbrev pub may_come_before : (ℕ → ℕ) → Ran → ℕ → ℕ → Bool
may_come_before since ByList u v = nat_le (since v) (since u)
may_come_before since _ u v = true

-- who may still be visited after user u was
abbrev pub may_come_after : (ℕ → ℕ) → Ran → ℕ → ℕ → Bool
may_come_after since ByList u v = nat_lt (since v) (since u)
may_come_after since (Own w) u v = not (v == w.0)
may_come_after since Nop u v = true

-- whom the end of the dispatch leaves to the target
abbrev pub may_come_closing : Ran → ℕ → Bool
may_come_closing ByList v = false
may_come_closing (Own w) v = not (v == w.0)
may_come_closing Nop v = true

-- who may still come at a moment of a dispatch. Any other user was visited, or was off at some command of the window. Otherwise a user
-- that was on throughout would be missed
abbrev pub may_come : (ℕ → ℕ) → Ran → Moment → ℕ → Bool
may_come since ran (TestSel u) v = may_come_before since ran u v
may_come since ran (TestFilter u copy reg) v = may_come_before since ran u v
may_come since ran (TestNotrace u copy reg) v = may_come_before since ran u v
may_come since ran (AtPids u reg) v = may_come_before since ran u v
may_come since ran (AtDepth u reg) v = may_come_before since ran u v
may_come since ran (Refusing u reg reason) v = may_come_before since ran u v
may_come since ran (Calling u reg) v = may_come_before since ran u v
may_come since ran (Missing u) v = may_come_after since ran u v
may_come since ran (Acting u o) v = may_come_after since ran u v
may_come since ran (Ending u) v = may_come_after since ran u v
may_come since ran (AtLink u) v = may_come_after since ran u v
may_come since ran Closing v = may_come_closing ran v
may_come since ran _ v = true

-- ## where a dispatch is

-- a walker is at this user
abbrev pub Walks : Job → Here → ℕ → ℕ → Type 0
Walks job h q u = ListWalk h.link (since_of job (list_desk h.p h.d)) h.order (Unlinked job h.d h.p h.request q u) u

-- before the user at which a dispatch is was visited: those visited were registered later. Otherwise somebody would be called twice, or
-- in the wrong order
abbrev pub BeforeVisit : Job → Here → ℕ → Ran → ℕ → List Visit → Type 0
BeforeVisit job h q ByList u ms = Walks job h q u × Each (λ m. since_of job (list_desk h.p h.d) u < m.since) ms
BeforeVisit job h q (Own w) u ms = (u ≡ w.0) × (ms ≡ [])
BeforeVisit job h q Nop u ms = ⊥

-- after that user was visited: so was it, or those visited were registered later
abbrev pub AfterVisit : Job → Here → ℕ → Ran → ℕ → List Visit → Type 0
AfterVisit job h q ByList u ms = Walks job h q u × Each (λ m. since_of job (list_desk h.p h.d) u ≤ m.since) ms
AfterVisit job h q (Own w) u ms = (u ≡ w.0) × Each (λ m. m.user ≡ u) ms
AfterVisit job h q Nop u ms = ⊥

-- ## what a dispatch has loaded

-- what was fetched was the site's target at some command of the window. Otherwise an instruction would run that nobody asked for
abbrev pub RanIs : Job → List Item → OpenCall → Type 0
RanIs job past c = InWindow c.call past (λ k. c.ran ≡ target (desk job k) c.func)

-- the target was this user's own trampoline at some command of the window, when the trampoline was the user's under this registration
abbrev pub WasTarget : Job → List Item → OpenCall → (slot u reg : ℕ) → Type 0
WasTarget job past c slot u reg = InWindow c.call past (λ k. (target (desk job k) c.func ≡ Own (record { 0 = u })) × IsOwned job slot u reg k)

-- a call is in that trampoline: it is still the user's, who still matches the function. Otherwise its word would be 0, or another user's
abbrev pub InOwn : Job → Here → List Item → ℕ → OpenCall → (slot u reg : ℕ) → Type 0
InOwn job h past q c slot u reg =
    WasTarget job past c slot u reg × Seen job h q (selected h.p) (λ k. (is_sited (desk job k) u c.func ≡ true) × IsOwned job slot u reg k)

-- a trampoline was fetched: whose it is is not known yet
abbrev pub TrampSeen : Job → Here → List Item → ℕ → OpenCall → (slot : ℕ) → Type 0
TrampSeen job h past q c slot = (u : ℕ) × (reg : ℕ) × InOwn job h past q c slot u reg

-- its word was loaded, and has told whose it is
abbrev pub OwnSeen : Job → Here → List Item → ℕ → OpenCall → (u reg : ℕ) → Type 0
OwnSeen job h past q c u reg = (slot : ℕ) × InOwn job h past q c slot u reg

-- the task is traced, if the user has the pid flag. Otherwise it would be called back for a task that both lists bar
abbrev pub PidSeen : Job → Here → ℕ → ℕ → ℕ → Type 0
PidSeen job h q u t = (spec_at job u).pid ≡ true → Seen job h q (pids_stored h.p) (λ k. is_allowed (desk job k) t ≡ true)

-- there is room for a frame, and the graph depth lets the call in, if the user is of kind graph or profile
abbrev pub LevelSeen : Job → Here → ℕ → ℕ → ℕ → Type 0
LevelSeen job h q u level = has_depth (spec_at job u).kind ≡ true
    → (level < job.frames) × Seen job h q (depth_stored h.p) (λ k. ((desk job k).depth ≡ 0) ⊎ (level < (desk job k).depth))

-- there is no room for a frame, or the graph depth does not let the call in
abbrev pub DeepSeen : Job → Here → ℕ → ℕ → Type 0
DeepSeen job h q level = (level ≡ job.frames) ⊎ Seen job h q (depth_stored h.p) (λ k. (0 < (desk job k).depth) × ((desk job k).depth ≤ level))

-- all levels of the guard of the call's context are held, or one is free
abbrev pub GuardIs : Job → OpenCall → List OpenCall → Bool → Type 0
GuardIs job c below b = is_full job (around c below).guards c.ctx ≡ b

-- why a user is refused. Otherwise somebody would be refused with no reason, or for the wrong one
abbrev pub ReasonAt : Job → Here → ℕ → OpenCall → List OpenCall → ℕ → Reason → Type 0
ReasonAt job h q c below u ByPid = ((spec_at job u).pid ≡ true) × Seen job h q (pids_stored h.p) (λ k. is_allowed (desk job k) c.call.task.0 ≡ false)
ReasonAt job h q c below u Recursion = PidSeen job h q u c.call.task.0 × GuardIs job c below true
ReasonAt job h q c below u ByDepth =
    PidSeen job h q u c.call.task.0 × GuardIs job c below false × (has_depth (spec_at job u).kind ≡ true) × DeepSeen job h q (level_of below)

-- what a dispatch has loaded, by the moment at which it is
abbrev pub DispatchAt : Job → Here → List Item → ℕ → ℕ → OpenCall → List OpenCall → List Visit → Moment → Type 0
DispatchAt job h past ack q c below ms Fetch = ms ≡ []
DispatchAt job h past ack q c below ms (GotHead byte) =
    (ms ≡ []) × FetchAt (stage job h.d h.p c.func) (insn job h.d c.func) (insn job (suc h.d) c.func) h.base ack (GotHead byte)
DispatchAt job h past ack q c below ms GotBreak =
    (ms ≡ []) × FetchAt (stage job h.d h.p c.func) (insn job h.d c.func) (insn job (suc h.d) c.func) h.base ack GotBreak
DispatchAt job h past ack q c below ms (InTramp slot) = (ms ≡ []) × TrampSeen job h past q c slot
DispatchAt job h past ack q c below ms (OwnSel u reg) = (ms ≡ []) × RanIs job past c × (c.ran ≡ Own (record { 0 = u })) × OwnSeen job h past q c u reg
DispatchAt job h past ack q c below ms AtFirst = (ms ≡ []) × RanIs job past c × (c.ran ≡ ByList)
DispatchAt job h past ack q c below ms (TestSel u) = RanIs job past c × BeforeVisit job h q c.ran u ms × (c.ran ≡ ByList)
DispatchAt job h past ack q c below ms (TestFilter u copy reg) =
    RanIs job past c × BeforeVisit job h q c.ran u ms × (c.ran ≡ ByList)
    × ReaderAt job h.d h.p h.request q h.copies h.bits u copy (InFilter job reg) × (copy < 2)
DispatchAt job h past ack q c below ms (TestNotrace u copy reg) =
    RanIs job past c × BeforeVisit job h q c.ran u ms × (c.ran ≡ ByList)
    × ReaderAt job h.d h.p h.request q h.copies h.bits u copy (InNotrace job reg c.func) × (copy < 2)
DispatchAt job h past ack q c below ms (AtPids u reg) =
    RanIs job past c × BeforeVisit job h q c.ran u ms × Found job h q u reg c.func × ((spec_at job u).pid ≡ true)
DispatchAt job h past ack q c below ms (AtDepth u reg) =
    RanIs job past c × BeforeVisit job h q c.ran u ms × Found job h q u reg c.func × PidSeen job h q u c.call.task.0 × GuardIs job c below false
    × (has_depth (spec_at job u).kind ≡ true)
DispatchAt job h past ack q c below ms (Refusing u reg reason) =
    RanIs job past c × BeforeVisit job h q c.ran u ms × Found job h q u reg c.func × ReasonAt job h q c below u reason
DispatchAt job h past ack q c below ms (Calling u reg) =
    RanIs job past c × BeforeVisit job h q c.ran u ms × Found job h q u reg c.func × PidSeen job h q u c.call.task.0 × GuardIs job c below false
    × LevelSeen job h q u (level_of below)
DispatchAt job h past ack q c below ms (Missing u) = RanIs job past c × AfterVisit job h q c.ran u ms × (misses_frame job (around c below) u ≡ true)
DispatchAt job h past ack q c below ms (Acting u o) = RanIs job past c × AfterVisit job h q c.ran u ms × (owed_by c.ctx (spec_at job u).act ≡ Some o)
DispatchAt job h past ack q c below ms (Ending u) = RanIs job past c × AfterVisit job h q c.ran u ms
DispatchAt job h past ack q c below ms (AtLink u) = RanIs job past c × AfterVisit job h q c.ran u ms × (c.ran ≡ ByList)
DispatchAt job h past ack q c below ms Closing = RanIs job past c × OnlyThose c.ran ms
DispatchAt job h past ack q c below ms _ = ⊥

-- what the history's own words need to know of an open call
abbrev pub walk_of : OpenCall → Walk
walk_of c = record { runs = c.runs; framed = c.framed; users = c.users }

-- A call between its Enter and its Body.
--   from, caller   what its Enter tells: how many commands had returned, and which call made it
--   early          its window has begun
--   so             what the history tells of it: who was visited, who may still come, its frame, and what is to run
--   on             who was visited stays on, or the task holds the command that takes that user off
--   at             what its dispatch has loaded
pub record Dispatches (job : Job) (h : Here) (past : List Item) (ack q : ℕ) (c : OpenCall) (below : List OpenCall) (m : Moment) : Type 0 where
  pub from : ℕ
  pub caller : Option CallNo
  pub early : from ≤ h.d
  pub so : CallSo job (around c below) c.call (record { ctx = c.ctx; func = c.func; caller = caller; from = from }) (walk_of c)
      (may_come (since_of job (list_desk h.p h.d)) c.ran m) past
  pub on : Each (λ x. SeenVisit job h q x c.func) (visits job c.call past)
  pub at : DispatchAt job h past ack q c below (visits job c.call past) m
