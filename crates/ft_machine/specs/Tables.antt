-- Operations on the list of the words, by place.
use Rattle.std.specs.Prelude.{ℕ, ◌+◌, ◌<◌, ◌^◌, List, get_or, slice_set}
use Rattle.word_map.specs.declared.op.Op.{Op}
use Rattle.word_map.specs.declared.op.Op.TheVariants.{Load, Store, Mark}
use Rattle.word_map.specs.Contents.{mark_weight}

-- the place of an operation is one of so many; a mark is on the first
abbrev pub IsOn : ℕ → Op → Type 0
IsOn n (Load word) = word < n
IsOn n (Store word value) = word < n
IsOn n (Mark command) = 0 < n

-- the clock does not overflow
abbrev pub HasRoomAt : List ℕ → Op → Type 0
HasRoomAt words (Mark command) = get_or words 0 0 + mark_weight command < 2 ^ 64
HasRoomAt words _ = Unit {0}

-- the words after an operation
abbrev pub made : Op → List ℕ → List ℕ
made (Load word) words = words
made (Store word value) words = slice_set words word value
made (Mark command) words = slice_set words 0 (get_or words 0 0 + mark_weight command)

-- the value that an operation gives
abbrev pub gives : Op → List ℕ → ℕ
gives (Load word) words = get_or words word 0
gives (Store word value) words = 0
gives (Mark command) words = get_or words 0 0
