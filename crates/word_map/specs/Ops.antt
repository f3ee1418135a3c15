-- The operations on the words: by name, as definitions have them, and by place, as code has them.
use Rattle.std.specs.Prelude.{ℕ, Bool, true, false}
use Rattle.ft_base.specs.declared.item.Item.{Item}
use Rattle.ft_base.specs.declared.item.Item.TheVariants.{Begin, Return}
use Rattle.word_map.specs.declared.op.Op.{Op}
use Rattle.word_map.specs.declared.op.Op.TheVariants as code
use Rattle.word_map.specs.declared.shape.Shape.{Shape}
use Rattle.word_map.specs.Words.{Word}
use Rattle.word_map.specs.Places.{place}

-- one operation on the words: a load, a store, or a mark, which counts one item
pub data WordOp : Type 0 where
  Load : (w : Word) → WordOp
  Store : (w : Word) → (x : ℕ) → WordOp
  Mark : (item : Item) → WordOp

-- an item of a command
abbrev pub is_command : Item → Bool
is_command (Begin k) = true
is_command (Return k answer) = true
is_command _ = false

-- the operation as code has it: on the place of its word, and a mark by whether the item is a command's
abbrev pub placed : Shape → WordOp → Op
placed shape (Load w) = code.Load (place shape w)
placed shape (Store w x) = code.Store (place shape w) x
placed shape (Mark item) = code.Mark (is_command item)
