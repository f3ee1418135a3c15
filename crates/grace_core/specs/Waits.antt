-- A wait of control: it stores a request, and looks at one word after the other until each has reached it (control's side of a grace
-- period).
use Rattle.std.specs.Prelude.{ℕ, suc, Bool, nat_le, nat_lt, Option, Some, None, if◌then◌else◌}
use Rattle.word_map.specs.declared.shape.Shape.{Shape}
use Rattle.word_map.specs.Words.{Word, Want, Ack, Quiet}
use Rattle.word_map.specs.Contents.{low}
use Rattle.word_map.specs.Ops.{WordOp, Load, Store}
use Rattle.grace_core.specs.declared.waiter.WaitPhase.{WaitPhase}
use Rattle.grace_core.specs.declared.waiter.WaitPhase.TheVariants.{Asking, Waiting, Ended}

-- a wait: for the quiet points of tasks, or else for the acknowledgements of CPUs; the number of its request; and where it stands
pub record Wait : Type 0 where
  pub shape : Shape
  pub quiet : Bool
  pub request : ℕ
  pub phase : WaitPhase

-- before its request is stored
abbrev pub wait_start : Shape → Bool → ℕ → Wait
wait_start shape quiet request = record { shape = shape; quiet = quiet; request = request; phase = Asking }

-- how many it waits for
abbrev pub awaited : Wait → ℕ
awaited w = if w.quiet then w.shape.tasks else w.shape.cpus

-- the word of one of them
abbrev pub awaited_word : Bool → ℕ → Word
awaited_word quiet n = if quiet then Quiet n else Ack n

-- what that word says: the last request that was reached
abbrev pub reached : Bool → ℕ → ℕ
reached quiet v = if quiet then low v else v

-- the next operation in a phase
abbrev pub wait_op : Wait → WaitPhase → Option WordOp
wait_op w Asking = Some (Store Want w.request)
wait_op w (Waiting n) = Some (Load (awaited_word w.quiet n))
wait_op w Ended = None

-- of a wait; none at its end
abbrev pub wait_next : Wait → Option WordOp
wait_next w = wait_op w w.phase

-- the wait for this one of so many, or the end
abbrev pub waiting_for : ℕ → ℕ → WaitPhase
waiting_for many n = if nat_lt n many then Waiting n else Ended

-- the phase after the operation in a phase gave a value
abbrev pub wait_after : Wait → WaitPhase → ℕ → WaitPhase
wait_after w Asking v = waiting_for (awaited w) 0
wait_after w (Waiting n) v = if nat_le w.request (reached w.quiet v) then waiting_for (awaited w) (suc n) else Waiting n
wait_after w Ended v = Ended

-- a wait after its next operation gave this value
abbrev pub wait_got : Wait → ℕ → Wait
wait_got w v = record w { phase = wait_after w w.phase v }
