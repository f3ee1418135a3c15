-- An operation on the content of its word.
use Rattle.std.specs.Prelude.{ℕ, ◌+◌, ◌%◌, ◌^◌}
use Rattle.word_map.specs.declared.op.Op.{Op}
use Rattle.word_map.specs.declared.op.Op.TheVariants.{Load, Store, Mark}
use Rattle.word_map.specs.Contents.{mark_weight}

-- the place of the word; a mark is on the clock
abbrev pub op_word : Op → ℕ
op_word (Load w) = w
op_word (Store w x) = w
op_word (Mark command) = 0

-- what the word holds after it, as the table adds
abbrev pub op_after : Op → ℕ → ℕ
op_after (Load w) n = n
op_after (Store w x) n = x
op_after (Mark command) n = (n + mark_weight command) % 2 ^ 64

-- the value that it gives, if the word held n
abbrev pub op_gives : Op → ℕ → ℕ
op_gives (Load w) n = n
op_gives (Store w x) n = 0
op_gives (Mark command) n = n
