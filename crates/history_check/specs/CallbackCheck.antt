-- What a check of callbacks keeps of the items so far, against what they tell.
use Rattle.std.specs.Prelude.{ℕ, ◌≡◌, ◌<◌, Bool, true, ◌||◌, ◌&&◌, ◌==◌, nat_lt, List, ◌∷◌, Option, Some, None, unwrap_or, if◌then◌else◌, IsTrue, ◌↔◌}
use Rattle.std.specs.List.{list_any, AllByRecursion as Each}
use Rattle.std.specs.HashMap.{HashMap, get}
use Rattle.std.specs.HashSet.{HashSet, contains}
use Rattle.ft_base.specs.declared.number.CallNo.{CallNo}
use Rattle.ft_base.specs.declared.context.Ctx.{Ctx}
use Rattle.ft_base.specs.declared.item.Item.{Item}
use Rattle.ft_base.specs.Same.{same_call}
use Rattle.ft_base.specs.Job.{Job}
use Rattle.ft_hist.specs.Past.{begun, callbacks, ctx_of, done, entry_of, visits, since_now}
use Rattle.history_check.specs.declared.backs.Check.{Check}
use Rattle.history_check.specs.declared.backs.Entry.{Entry}
use Rattle.history_check.specs.Backs.{KeepsBacks}
use Rattle.history_check.specs.CallbackList.{callbacks_of}
use Rattle.history_check.specs.DeskRows.{AreOf}

-- ## calls

-- two keys of calls are the same
abbrev pub same_key : ℕ × ℕ → ℕ × ℕ → Bool
same_key a b = (a.0 == b.0) && (a.1 == b.1)

-- what is kept of a call of which there is nothing
abbrev pub no_entry : Entry
no_entry = record { ctx = None; func = record { 0 = 0 }; from = 0; latest = None }

-- what is kept of a call
abbrev pub entry_in : {S : Type 0} → HashMap (ℕ × ℕ) Entry S → CallNo → Entry
entry_in m call = unwrap_or (get same_key m (call.task.0, call.n)) no_entry

-- what a check keeps of a call
abbrev pub entry_at : Check → CallNo → Entry
entry_at c call = entry_in c.entries call

-- a number of a command is below that of the last visit, or there was none
abbrev pub is_before : ℕ → Option ℕ → Bool
is_before s None = true
is_before s (Some latest) = nat_lt s latest

-- what is kept of a call is what the items tell: its context, its function, the commands that had returned at its entry, and which user may be visited
pub record IsEntry (job : Job) (past : List Item) (call : CallNo) (e : Entry) : Type 0 where
  pub ctx : e.ctx ≡ ctx_of call past
  pub func : e.func.0 ≡ (entry_of call past).func
  pub from : e.from ≡ (entry_of call past).from
  pub order : (s : ℕ) → IsTrue (is_before s e.latest) ↔ Each (λ m. s < m.since) (visits job call past)

-- a call was entered, and the others are as they were
abbrev pub HasEntered : CallNo → Ctx → ℕ → Check → Check → Type 0
HasEntered call ctx f old new =
    (c : CallNo) → entry_at new c ≡ (if same_call call c then record (entry_at old call) { ctx = Some ctx; func = record { 0 = f }; from = old.done } else entry_at old c)

-- ## visits

-- two keys of visits are the same
abbrev pub same_visit : ℕ × ℕ × ℕ → ℕ × ℕ × ℕ → Bool
same_visit a b = (a.0 == b.0) && (a.1 == b.1) && (a.2 == b.2)

-- whether a visit of the user in the call is kept
abbrev pub is_visit_in : {S : Type 0} → HashSet (ℕ × ℕ × ℕ) S → CallNo → ℕ → Bool
is_visit_in s call u = contains same_visit s (call.task.0, call.n, u)

-- whether a check keeps a visit of the user in the call
abbrev pub is_visited : Check → CallNo → ℕ → Bool
is_visited c call u = is_visit_in c.visited call u

-- the same call, in which a user was visited that this command registered
abbrev pub with_latest : ℕ → Entry → Entry
with_latest since e = record e { latest = Some since }

-- one visit more is kept, and the others as they were
pub record HasVisited (job : Job) (past : List Item) (call : CallNo) (u : ℕ) (old new : Check) : Type 0 where
  pub entries : (c : CallNo) → entry_at new c ≡ (if same_call call c then with_latest (since_now job call u past) (entry_at old call) else entry_at old c)
  pub visited : (c : CallNo) (v : ℕ) → is_visited new c v ≡ (same_call call c && (u == v)) || is_visited old c v

-- ## all

-- the calls, and who was visited in which, are what the items tell
pub record AreCalls (job : Job) (past : List Item) (c : Check) : Type 0 where
  pub entries : (call : CallNo) → IsEntry job past call (entry_at c call)
  pub visited : (call : CallNo) (u : ℕ) → is_visited c call u ≡ list_any (λ m. m.user == u) (visits job call past)

-- what is kept is what the items tell
pub record IsCheck (job : Job) (past : List Item) (c : Check) : Type 0 where
  pub desks : AreOf job c.desks
  pub calls : AreCalls job past c
  pub callbacks' : callbacks_of c.callbacks ≡ callbacks past
  pub done' : c.done ≡ done past
  pub begun' : c.begun ≡ begun past

-- whether an item keeps the rules is told, and if it does it is taken in
pub record IsNoted (job : Job) (past : List Item) (item : Item) (keeps : Bool) (c : Check) : Type 0 where
  pub told : IsTrue keeps ↔ KeepsBacks job past item
  pub kept : keeps ≡ true → IsCheck job (item ∷ past) c
