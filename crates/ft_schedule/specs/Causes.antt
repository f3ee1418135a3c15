-- Why the text of a schedule is refused.
use Rattle.std.specs.Prelude.{◌≡◌, ℕ, ◌<◌, ◌==◌, ◌||◌, ◌+◌, ◌*◌, nat_le, nat_lt, Bool, false, List, sum_by, Option, Some, None, ◌⊎◌, if◌then◌else◌}
use Rattle.std.specs.List.{list_any}
use Rattle.ft_base.specs.declared.limits.TheConstants.{STEPS}
use Rattle.ft_base.specs.declared.turn.Who.{Who}
use Rattle.ft_base.specs.declared.turn.Who.TheVariants.{Cpu, All}
use Rattle.ft_base.specs.declared.turn.Turn.{Turn}
use Rattle.ft_schedule.specs.declared.item.SchedItem.{SchedItem}
use Rattle.ft_schedule.specs.declared.faults.SchedFault.{SchedFault}
use Rattle.ft_schedule.specs.declared.faults.SchedFault.TheVariants.{Syntax, Limit, Unknown, NoMemory}
use Rattle.ft_schedule.specs.Items.{items_in}

-- the count is 0, or above 4,294,967,295
abbrev pub has_bad_count : SchedItem → Bool
has_bad_count item = (item.count == 0) || nat_lt 4294967295 item.count

-- the actors of one count: control and each CPU, or one
abbrev pub actors_at : ℕ → Who → ℕ
actors_at cpus All = 1 + cpus
actors_at cpus _ = 1

-- the steps of an item
abbrev pub steps_of : ℕ → SchedItem → ℕ
steps_of cpus item = item.count * actors_at cpus item.who

-- a bad count, or more steps than a schedule may have, together with these
abbrev pub is_past_limit : ℕ → ℕ → List SchedItem → Bool
is_past_limit cpus steps items = list_any has_bad_count items || nat_lt STEPS (steps + sum_by (steps_of cpus) items)

-- these steps and those of the items, if that is within the limit
abbrev pub steps_with : ℕ → ℕ → List SchedItem → Option ℕ
steps_with cpus steps items = if is_past_limit cpus steps items then None else Some (steps + sum_by (steps_of cpus) items)

-- a CPU that doesn't exist, among this many
abbrev pub is_no_cpu : ℕ → Who → Bool
is_no_cpu cpus (Cpu c) = nat_le cpus c.0
is_no_cpu cpus _ = false

-- the item names such a CPU
abbrev pub is_unknown : ℕ → SchedItem → Bool
is_unknown cpus item = is_no_cpu cpus item.who

-- one of the items does
abbrev pub has_unknown : ℕ → List SchedItem → Bool
has_unknown cpus items = list_any (is_unknown cpus) items

-- the first cause to refuse items
abbrev pub cause_in : ℕ → List SchedItem → Option SchedFault
cause_in cpus items =
    if is_past_limit cpus 0 items then Some Limit
    else (if has_unknown cpus items then Some Unknown else None)

-- the same, if there are items
abbrev pub cause_with : ℕ → Option (List SchedItem) → Option SchedFault
cause_with cpus None = Some Syntax
cause_with cpus (Some items) = cause_in cpus items

-- the first cause to refuse a text
abbrev pub cause_of : ℕ → List ℕ → Option SchedFault
cause_of cpus text = cause_with cpus (items_in text)

-- a refusal is the first cause, or out of memory
abbrev pub IsCause : ℕ → List ℕ → SchedFault → Type 0
IsCause cpus text fault = (fault ≡ NoMemory) ⊎ (cause_of cpus text ≡ Some fault)

-- a turn of a schedule that was read: it comes once or more, and its CPU exists
pub record IsTurn (cpus : ℕ) (turn : Turn) : Type 0 where
  pub counted : 0 < turn.count
  pub known : is_no_cpu cpus turn.who ≡ false
