-- Of which items a log is read, and at which line a text is refused.
use Rattle.std.specs.Prelude.{ℕ, suc, ◌≡◌, ◌≢◌, ◌<◌, ◌^◌, Bool, List, ◌++◌, length, Option, Some, None}
use Rattle.std.specs.List.{AllByRecursion as Each}
use Rattle.ft_base.specs.declared.number.CallNo.{CallNo}
use Rattle.ft_base.specs.declared.item.Item.{Item}
use Rattle.ft_base.specs.declared.item.Item.TheVariants.{Begin, Return, Enter, Back, BackEnd, Refuse, Miss, Body, Leave, Exit, ExitEnd, Ret}
use Rattle.ft_base.specs.Job.{Job}
use Rattle.trace_views.specs.Words.{last_line}
use Rattle.trace_views.specs.LogText.{log_line, log_lines}
use Rattle.trace_lines.specs.LogItems.{IsItemOf}

-- the number of a call has 32 bits
abbrev pub IsCallShort : CallNo → Type 0
IsCallShort call = call.n < 2 ^ 32

-- and that of a caller, if there is one
abbrev pub IsCallerShort : Option CallNo → Type 0
IsCallerShort None = Unit {0}
IsCallerShort (Some call) = IsCallShort call

-- the numbers of the commands, calls and places in an item have 32 bits
abbrev pub IsShort : Item → Type 0
IsShort (Begin k) = k < 2 ^ 32
IsShort (Return k answer) = k < 2 ^ 32
IsShort (Enter call ctx f caller) = IsCallShort call × IsCallerShort caller
IsShort (Back call u) = IsCallShort call
IsShort (BackEnd call u) = IsCallShort call
IsShort (Refuse call u reason) = IsCallShort call
IsShort (Miss call u) = IsCallShort call
IsShort (Body call g ran) = IsCallShort call
IsShort (Leave call) = IsCallShort call
IsShort (Exit call u entry) = IsCallShort call × (entry < 2 ^ 32)
IsShort (ExitEnd call u) = IsCallShort call
IsShort (Ret call to) = IsCallShort call × IsCallerShort to

-- an item as a log of the job may have it: its functions, users and tasks are the job's, and its other numbers have 32 bits
pub record IsNumbered (job : Job) (item : Item) : Type 0 where
  pub of_job : IsItemOf job item
  pub short : IsShort item

-- The lines of a text up to line n, from 1, are those of items, and line n isn't: what is left there neither begins with the
-- line of an item at its place nor is the last line.
pub record IsRefusedAt (job : Job) (text : List ℕ) (n : ℕ) : Type 0 where
  pub items : List Item
  pub rest : List ℕ
  pub count : suc (length items) ≡ n
  pub numbered : Each (IsNumbered job) items
  pub begins : text ≡ log_lines job 0 items ++ rest
  pub no_item : (item : Item) (more : List ℕ) → IsNumbered job item → rest ≢ log_line job (length items) item ++ more
  pub no_end : (ended : Bool) → rest ≢ last_line ended
