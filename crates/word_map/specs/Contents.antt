-- What the words hold: halves, the clock, a user's state, a trampoline's user, the name of a user, a word of a set, the tasks that are traced.
use Rattle.std.specs.Prelude.{ℕ, zero, suc, ◌+◌, ◌*◌, ◌-◌, ◌/◌, ◌%◌, Bool, ◌==◌, ◌&&◌, map, Option, Some, None, if◌then◌else◌}
use Rattle.std.specs.List.{range_with_len}
use Rattle.std.specs.Int.{bit_at}
use Rattle.ft_base.specs.declared.number.UserNo.{UserNo}
use Rattle.ft_base.specs.Marks.{is_empty}
use Rattle.ft_base.specs.Desk.{Desk, UserState, is_allowed}
use Rattle.site_set.specs.Marks.{number_with_bits, word_of}
use Rattle.word_map.specs.declared.sel.Sel.{Sel}

-- ## halves of a word

-- one more than the greatest number that a half of a word holds
abbrev pub half_size : ℕ
half_size = 4294967296

-- the low half
abbrev pub low : ℕ → ℕ
low v = v % half_size

-- the high half
abbrev pub high : ℕ → ℕ
high v = v / half_size

-- the word of a high and a low half
abbrev pub halves : ℕ → ℕ → ℕ
halves h l = half_size * h + l

-- the greatest number that a half holds; the low half of a task's quiet word holds it once the task has ended
abbrev pub greatest_half : ℕ
greatest_half = 4294967295

-- the greatest number that a word holds; a CPU's acknowledgement holds it once all its tasks have ended
abbrev pub all_ones : ℕ
all_ones = 18446744073709551615

-- ## what the halves and bits say

-- what a mark adds to the clock: 1, and for an item of a command 1 more in the high half
abbrev pub mark_weight : Bool → ℕ
mark_weight command = if command then half_size + 1 else 1

-- how many commands had returned when the clock held this: its high half counts the Begin and the Return of each
abbrev pub returned_at : ℕ → ℕ
returned_at v = high v / 2

-- a bit
abbrev pub digit : Bool → ℕ
digit b = if b then 1 else 0

-- the state of a user: the registration number, and in bits 0 to 3 whether it is registered, whether it is enabled, which copy is in
-- use, and whether the filter is empty
abbrev pub sel_word : ℕ → Bool → Bool → ℕ → Bool → ℕ
sel_word reg registered enabled copy empty = halves reg (digit registered + 2 * digit enabled + 4 * copy + 8 * digit empty)

-- the state that a user of the desk has, with this copy in use
abbrev pub sel_of : UserState → ℕ → ℕ
sel_of s copy = sel_word s.reg s.registered s.enabled copy (is_empty s.filter)

-- the user is registered and enabled
abbrev pub sel_on : ℕ → Bool
sel_on v = (v % 2 == 1) && (v / 2 % 2 == 1)

-- the copy that is in use
abbrev pub sel_copy : ℕ → ℕ
sel_copy v = v / 4 % 2

-- the filter is empty
abbrev pub sel_empty : ℕ → Bool
sel_empty v = v / 8 % 2 == 1

-- a state by its parts
abbrev pub sel_parts : ℕ → Sel
sel_parts v = record {
  reg = high v;
  registered = v % 2 == 1;
  enabled = v / 2 % 2 == 1;
  copy = sel_copy v;
  empty = sel_empty v;
}

-- the user is registered under this number, and enabled
abbrev pub stands : ℕ → ℕ → Bool
stands v reg = sel_on v && (high v == reg)

-- a trampoline's word: its user and the user's registration number. A free one holds 0
abbrev pub tramp_word : ℕ → ℕ → ℕ
tramp_word reg u = halves reg (u + 1)

-- the user of a trampoline's word
abbrev pub tramp_user : ℕ → ℕ
tramp_user v = low v - 1

-- what a word holds that names this user: 0 if it names none
abbrev pub name_of : Option UserNo → ℕ
name_of None = 0
name_of (Some u) = suc u.0

-- the user that a word names
abbrev pub named : ℕ → Option UserNo
named zero = None
named (suc u) = Some (record { 0 = u })

-- a number is in the set of which this is the word
abbrev pub is_marked : ℕ → ℕ → Bool
is_marked v n = bit_at v (n % 64) == 1

-- a word of the filter (half 0) or of the notrace set of a user
abbrev pub set_word : UserState → ℕ → ℕ → ℕ
set_word s zero w = word_of s.filter w
set_word s (suc h) w = word_of s.notrace w

-- a bit for each of this many tasks, 1 if the task is traced for users with the pid flag
abbrev pub mask_of : Desk → ℕ → ℕ
mask_of d tasks = number_with_bits (map (is_allowed d) (range_with_len 0 tasks))

-- the copy of a user's sets that is not in use
abbrev pub other_copy : ℕ → ℕ
other_copy copy = 1 - copy
