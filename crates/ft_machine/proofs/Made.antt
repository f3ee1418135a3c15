-- An operation on the list of the words is the word machine's operation on the words by name.
use Rattle.std.proofs.Common.{◌≡◌, ℕ, ◌+◌, ◌<◌, List, get_or, length, Some, refl, sym, ap, ◌∙◌, arith, length-set}
use Rattle.ft_base.specs.declared.item.Item.{Item}
use Rattle.ft_base.specs.declared.item.Item.TheVariants.{Begin, Return}
use Rattle.ft_base.specs.Job.{Job}
use Rattle.word_map.specs.declared.shape.Shape.{Shape}
use Rattle.word_map.specs.Contents.{low, mark_weight}
use Rattle.word_map.specs.Ops.{WordOp, Load, Store, Mark, is_command, placed}
use Rattle.word_map.specs.Places.{IsThere, len, place, words_in}
use Rattle.word_map.specs.Shapes.{shape_of}
use Rattle.word_map.specs.Words.{Clock, put}
use Rattle.word_map.proofs.PlaceLaws.{is_map, put_flat, read_there}
use Rattle.word_machine.specs.Laws.{AllFit, IsOnWord}
use Rattle.word_machine.specs.Machine.{World, taken, weight, words_after}
use Rattle.word_machine.specs.Rule.{MachineRule}
use Rattle.ft_machine.specs.Tables.{HasRoomAt, IsOn, gives, made}

-- the word of an operation is there
abbrev pub IsOpThere : Shape → WordOp → Type 0
IsOpThere shape (Load w) = IsThere shape w
IsOpThere shape (Store w x) = IsThere shape w
IsOpThere shape (Mark item) = Unit {0}

-- an operation on a word of a job is on one of the job's shape
pub of-job : (job : Job) (op : WordOp) → IsOnWord job (Some op) → IsOpThere (shape_of job) op
of-job job (Load w) t = t
of-job job (Store w x) t = t
of-job job (Mark item) t = t

-- ## the clock

-- code's mark adds what the machine's does
weight-is : (item : Item) → mark_weight (is_command item) ≡ weight item
weight-is (Begin k) = refl
weight-is (Return k answer) = refl
weight-is _ = refl

-- the clock has counted the items of the history
pub past-counted : (job : Job) (s : World) → MachineRule job s → low s.words.clock ≡ length s.past
past-counted job s k = let e = k.counts.clock' in let r = k.counts.room in omega (arith, e, r)

-- ## the list

-- an operation leaves the list as long as it was
pub made-length : (shape : Shape) (op : WordOp) (list : List ℕ) → length (made (placed shape op) list) ≡ length list
made-length shape (Load w) list = refl
made-length shape (Store w x) list = length-set list (place shape w) x
made-length shape (Mark item) list = length-set list 0 (get_or list 0 0 + mark_weight (is_command item))

module _ (shape : Shape) (pids : ℕ) (list : List ℕ) (many : length list ≡ len shape) where
  -- there is a clock
  clock-there : 0 < length list
  clock-there = let i = (is_map shape).inside Clock (record {}) in omega (arith, i, many)

  -- the words after an operation are the machine's
  pub made-is : (op : WordOp) → IsOpThere shape op
      → words_in shape pids (made (placed shape op) list) ≡ words_after op (words_in shape pids list)
  made-is (Load w) t = refl
  made-is (Store w x) t = put_flat shape pids list w x many t
  made-is (Mark item) t =
      let e = weight-is item in
      let same : get_or list 0 0 + mark_weight (is_command item) ≡ weight item + get_or list 0 0 = omega (arith, e) in
      put_flat shape pids list Clock (get_or list 0 0 + mark_weight (is_command item)) many (record {})
      ∙ ap (λ n. put Clock n (words_in shape pids list)) same

  -- so is the value that it gives
  pub gives-is : (op : WordOp) → IsOpThere shape op → gives (placed shape op) list ≡ taken op (words_in shape pids list)
  gives-is (Load w) t = sym (read_there shape pids w list t)
  gives-is (Store w x) t = refl
  gives-is (Mark item) t = refl

  -- its place is in the list
  pub on-is : (op : WordOp) → IsOpThere shape op → IsOn (length list) (placed shape op)
  on-is (Load w) t = let i = (is_map shape).inside w t in omega (arith, i, many)
  on-is (Store w x) t = let i = (is_map shape).inside w t in omega (arith, i, many)
  on-is (Mark item) t = clock-there

  -- the clock has room for it, if the machine's words fit after it
  pub room-is : (op : WordOp) → AllFit (words_after op (words_in shape pids list)) → HasRoomAt list (placed shape op)
  room-is (Load w) fits = record {}
  room-is (Store w x) fits = record {}
  room-is (Mark item) fits = let e = weight-is item in let f = fits Clock in omega (arith, e, f)
