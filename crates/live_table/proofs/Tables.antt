-- An atomic operation on a table of words is the machine's operation on the list of the words.
use Rattle.std.proofs.Common.{◌≡◌, ℕ, ◌+◌, ◌^◌, ◌<◌, Bool, true, false, List, get_or, length, set, refl, ap, ◌∙◌, arith}
use Rattle.std.proofs.lemmas.List.{set-get_or}
use Rattle.ft_base.specs.Desk.{desk}
use Rattle.ft_base.specs.Job.{Job}
use Rattle.word_map.specs.declared.op.Op.{Op}
use Rattle.word_map.specs.declared.op.Op.TheVariants.{Load, Store, Mark}
use Rattle.word_map.specs.Contents.{mark_weight, mask_of}
use Rattle.word_map.specs.Ops as named
use Rattle.word_map.specs.Ops.{WordOp, placed}
use Rattle.word_map.specs.Places.{len}
use Rattle.word_map.specs.Shapes.{shape_of}
use Rattle.word_map.specs.Words.{Clock}
use Rattle.word_map.specs.declared.shape.Shape.{Shape}
use Rattle.word_map.proofs.PlaceLaws.{is_map}
use Rattle.word_machine.specs.Laws.{AllFit}
use Rattle.word_machine.specs.Machine.{taken, words_after}
use Rattle.ft_machine.specs.Tables.{HasRoomAt, gives, made}
use Rattle.ft_machine.specs.Worlds.{words_of}
use Rattle.ft_machine.proofs.Made.{IsOpThere, gives-is, made-is, room-is}
use Rattle.live_table.specs.Operations.{op_after, op_gives, op_word}

-- what the operation gives, and the words after it
abbrev pub gave : List ℕ → Op → ℕ
gave words op = op_gives op (get_or words (op_word op) 0)

abbrev pub changed : List ℕ → Op → List ℕ
changed words op = set words (op_word op) (op_after op (get_or words (op_word op) 0))

gave-is : (words : List ℕ) (op : Op) → gave words op ≡ gives op words
gave-is words (Load w) = refl
gave-is words (Store w x) = refl
gave-is words (Mark command) = refl

-- a mark on a clock that has room does not wrap
counted-is : (command : Bool) (n : ℕ) → n + mark_weight command < 2 ^ 64 → op_after (Mark command) n ≡ n + mark_weight command
counted-is true n room = omega (arith, room)
counted-is false n room = omega (arith, room)

changed-is : (words : List ℕ) (op : Op) → HasRoomAt words op → changed words op ≡ made op words
changed-is words (Load w) room = set-get_or words w 0
changed-is words (Store w x) room = refl
changed-is words (Mark command) room = ap (λ n. set words 0 n) (counted-is command (get_or words 0 0) room)

-- its place is one of the table's
pub op-within : (shape : Shape) (op : WordOp) → IsOpThere shape op → op_word (placed shape op) < len shape
op-within shape (named.Load w) there = (is_map shape).inside w there
op-within shape (named.Store w x) there = (is_map shape).inside w there
op-within shape (named.Mark item) there = let lt = (is_map shape).inside Clock (record {}) in omega (arith, lt)

-- the tasks that are traced at the start
abbrev traced : Job → ℕ
traced job = mask_of (desk job 0) (length job.tasks)

-- by name
module _ (job : Job) (words : List ℕ) (many : length words ≡ len (shape_of job)) (op : WordOp) (there : IsOpThere (shape_of job) op) where
  pub gave-named : gave words (placed (shape_of job) op) ≡ taken op (words_of job words)
  gave-named = gave-is words (placed (shape_of job) op) ∙ gives-is (shape_of job) (traced job) words many op there

  pub changed-named : AllFit (words_after op (words_of job words)) → words_of job (changed words (placed (shape_of job) op)) ≡ words_after op (words_of job words)
  changed-named fits =
      ap (words_of job) (changed-is words (placed (shape_of job) op) (room-is (shape_of job) (traced job) words many op fits))
      ∙ made-is (shape_of job) (traced job) words many op there
