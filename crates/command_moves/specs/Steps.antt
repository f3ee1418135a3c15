-- A command under way in code.
use Rattle.std.specs.Prelude.{ℕ, suc, ◌≡◌, Bool, true, false, List, [], Option, Some, None, slice_get, if◌then◌else◌}
use Rattle.std.specs.Option.{option_map}
use Rattle.word_map.specs.declared.shape.Shape.{Shape}
use Rattle.word_map.specs.declared.op.Op.{Op}
use Rattle.word_map.specs.declared.op.Op.TheVariants as op
use Rattle.word_map.specs.Ops.{placed}
use Rattle.grace_core.specs.Waits.{Wait, wait_start, wait_next, wait_got}
use Rattle.grace_core.specs.declared.waiter.WaitPhase.{WaitPhase}
use Rattle.grace_core.specs.declared.waiter.WaitPhase.TheVariants.{Ended}
use Rattle.command_moves.specs.declared.underway.Move.{Move}
use Rattle.command_moves.specs.declared.underway.Move.TheVariants as code

-- the shape, its moves, how many of them are made, the wait of the present one if its request is stored, how many requests were stored so
-- far, by earlier commands too, and for how many moves there is room
pub record Underway : Type 0 where
  pub shape : Shape
  pub moves : List Move
  pub made : ℕ
  pub wait : Option Wait
  pub request : ℕ
  pub room : ℕ

-- before the first command
abbrev pub at_start : Shape → ℕ → Underway
at_start shape room = record { shape = shape; moves = []; made = 0; wait = None; request = 0; room = room }

-- the next operation before a move; none after the last one
abbrev pub move_op : Shape → ℕ → Option Move → Option Op
move_op shape request None = None
move_op shape request (Some (code.Store word value)) = Some (op.Store word value)
move_op shape request (Some code.Sync) = option_map (placed shape) (wait_next (wait_start shape false (suc request)))
move_op shape request (Some code.Quiet) = option_map (placed shape) (wait_next (wait_start shape true (suc request)))

-- the next operation, in a wait or before a move
abbrev pub op_in : Underway → Option Wait → Option Op
op_in c None = move_op c.shape c.request (slice_get c.moves c.made)
op_in c (Some w) = option_map (placed c.shape) (wait_next w)

-- the same, as it stands
abbrev pub op_of : Underway → Option Op
op_of c = op_in c c.wait

-- a wait is over
abbrev pub is_over : WaitPhase → Bool
is_over Ended = true
is_over _ = false

-- after an operation of a wait
abbrev pub waited : Underway → Wait → Underway
waited c w = if is_over w.phase then record c { made = suc c.made; wait = None } else record c { wait = Some w }

-- after the store of a request
abbrev pub asked : Underway → Bool → ℕ → Underway
asked c quiet v = waited (record c { request = suc c.request }) (wait_got (wait_start c.shape quiet (suc c.request)) v)

-- after the operation before a move
abbrev pub moved : Underway → Option Move → ℕ → Underway
moved c None v = c
moved c (Some (code.Store word value)) v = record c { made = suc c.made }
moved c (Some code.Sync) v = asked c false v
moved c (Some code.Quiet) v = asked c true v

-- after its operation gave a value, in a wait or before a move
abbrev pub stepped_in : Underway → Option Wait → ℕ → Underway
stepped_in c None v = moved c (slice_get c.moves c.made) v
stepped_in c (Some w) v = waited c (wait_got w v)

-- the same, as it stands
abbrev pub stepped : Underway → ℕ → Underway
stepped c v = stepped_in c c.wait v

-- a wait is of the shape
abbrev pub IsOfShape : Shape → Option Wait → Type 0
IsOfShape shape None = Unit {0}
IsOfShape shape (Some w) = w.shape ≡ shape
