-- Where a user is in a history: its open calls, and how often it was called back in them. What is told at a place takes the items
-- before it, the latest first: its past.
use Rattle.std.specs.Prelude.{ℕ, ◌≡◌, ◌<◌, Bool, false, ◌&&◌, ◌==◌, List, ◌∷◌, length, filter}
use Rattle.std.specs.List.{AllByRecursion as Each}
use Rattle.ft_base.specs.declared.number.CallNo.{CallNo}
use Rattle.ft_base.specs.declared.item.Item.{Item}
use Rattle.ft_base.specs.declared.item.Item.TheVariants.{Enter, Back, Exit, Ret}
use Rattle.ft_base.specs.Same.{same_call}
use Rattle.ft_hist.specs.Past.{is_open, calls}
use Rattle.ft_hist.specs.Telling.{open_calls}
use Rattle.trace_views.specs.GraphText.{called}

-- whether a call is an open one of the task
abbrev pub is_open_in : ℕ → List Item → CallNo → Bool
is_open_in t past c = (c.task.0 == t) && is_open c past

-- how often the user was called back in a call
abbrev pub backs_in : ℕ → CallNo → List Item → ℕ
backs_in u call past = length (filter (λ c. same_call c call) (called u past))

-- how often it was called back in the open calls of a task
abbrev pub backs_open : ℕ → ℕ → List Item → ℕ
backs_open u t past = length (filter (is_open_in t past) (called u past))

-- ## how an item goes with the calls that are open

-- the call isn't among these
abbrev pub IsFresh : CallNo → List CallNo → Type 0
IsFresh call cs = Each (λ c. same_call call c ≡ false) cs

-- the call is the latest open one of its task, which is one of the first
abbrev pub IsTop : ℕ → CallNo → List Item → Type 0
IsTop tasks call past = (call.task.0 < tasks) × (below : List CallNo) × (open_calls call.task.0 past ≡ call ∷ below)

-- an item of a legal history: a call is entered once, and returns and is called back for as the latest open one; an exit comes after its
-- entry callback
abbrev pub Goes : ℕ → List Item → Item → Type 0
Goes tasks past (Enter call ctx f caller) = (call.task.0 < tasks) × IsFresh call (calls past)
Goes tasks past (Back call v) = IsTop tasks call past
Goes tasks past (Exit call v entry) = IsTop tasks call past × (entry < length past)
Goes tasks past (Ret call to) = IsTop tasks call past
Goes tasks past _ = Unit {0}
