-- What an item of a history is to rings and triggers.
use Rattle.std.specs.Prelude.{ℕ, Bool, true, false, ◌==◌, nat_lt, min, List, [], ◌∷◌, get_or, slice_index_or, if◌then◌else◌, ◌+◌, Option, Some, None}
use Rattle.std.specs.List.{list_any}
use Rattle.ft_base.specs.declared.number.CallNo.{CallNo}
use Rattle.ft_base.specs.declared.item.Item.{Item}
use Rattle.ft_base.specs.declared.item.Item.TheVariants.{Enter, Back}
use Rattle.ft_base.specs.declared.item.Stamped.{Stamped}
use Rattle.ft_base.specs.Items.{call_of}
use Rattle.ft_base.specs.Job.{Trigger}
use Rattle.ft_base.specs.Marks.{holds}
use Rattle.ring_rules.specs.Plan.{TracePlan, no_trigger}

-- whether a call is of a task of CPU c
abbrev pub call_on : TracePlan → ℕ → Option CallNo → Bool
call_on plan c None = false
call_on plan c (Some call) = get_or plan.tasks call.task.0 0 == c

-- whether an item is one of CPU c: of a call of a task of it. Control's items are of none
abbrev pub is_of_cpu : TracePlan → ℕ → Item → Bool
is_of_cpu plan c item = call_on plan c (call_of item)

-- whether an item hits the trigger: it is the call of a function in the trigger's set
abbrev pub is_hit : Trigger → Item → Bool
is_hit t (Enter call ctx f caller) = holds t.set f.0
is_hit t _ = false

-- whether the item's place goes into a ring while tracing is on: it is an entry callback of a user of kind function, as which counts one that
-- a job doesn't have
abbrev pub is_traced : TracePlan → Item → Bool
is_traced plan (Back call u) = get_or plan.users u.0 true
is_traced plan _ = false

-- the trigger of line i
abbrev pub trigger : TracePlan → ℕ → Trigger
trigger plan i = slice_index_or plan.triggers i no_trigger

-- whether a hit fires that has n hits of its trigger before it (ftrace.rst, Filter commands: "the number of times")
abbrev pub fires : Option ℕ → ℕ → Bool
fires None n = true
fires (Some most) n = nat_lt n most

-- how many of n hits fire
abbrev pub quota : Option ℕ → ℕ → ℕ
quota None n = n
quota (Some most) n = min most n

-- how many items hit a trigger
abbrev pub hits_in : Trigger → List Item → ℕ
hits_in t [] = 0
hits_in t (item ∷ rest) = (if is_hit t item then 1 else 0) + hits_in t rest

-- whether a place is in a list
abbrev pub has : List ℕ → ℕ → Bool
has places p = list_any (λ q. q == p) places

-- an item at its place
abbrev pub stamp : ℕ → Item → Stamped
stamp p item = record { place = p; item = item }
