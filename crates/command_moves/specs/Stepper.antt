-- The stepper of a command's moves, where it stands for the word machine's control.
use Rattle.std.specs.Prelude.{ℕ, ◌≡◌, List, ◌++◌, map, length, Option, Some, None}
use Rattle.ft_base.specs.Job.{Job}
use Rattle.word_map.specs.declared.shape.Shape.{Shape}
use Rattle.word_map.specs.Places.{place}
use Rattle.word_map.specs.Shapes.{shape_of}
use Rattle.grace_core.specs.Waits.{Wait}
use Rattle.grace_core.specs.declared.waiter.WaitPhase.TheVariants.{Waiting}
use Rattle.word_machine.specs.Control.{Control, Position, Await, wait_for}
use Rattle.command_moves.specs.declared.underway.Move.{Move as CodeMove}
use Rattle.command_moves.specs.declared.underway.Move.TheVariants as code
use Rattle.command_moves.specs.Program.{Move, Put, Sync, Quiet}
use Rattle.command_moves.specs.Left.{left_in}
use Rattle.command_moves.specs.Steps.{Underway}

-- a move as code has it: with the place of its word
abbrev pub coded : Shape → Move → CodeMove
coded shape (Put w x) = code.Store (place shape w) x
coded shape Sync = code.Sync
coded shape Quiet = code.Quiet

-- these moves are left of its own
abbrev pub IsLeft : Job → Underway → List Move → Type 0
IsLeft job c rest = (made : List CodeMove) × (c.moves ≡ made ++ map (coded (shape_of job)) rest) × (c.made ≡ length made)

-- the wait at a position
abbrev pub wait_of : Job → ℕ → Position → Option Wait
wait_of job request (Await whom n) = Some (wait_for job whom request (Waiting n))
wait_of job request _ = None

-- it stands for control at this position
pub record IsFor (job : Job) (m : Control) (p : Position) (c : Underway) : Type 0 where
  pub shape : c.shape ≡ shape_of job
  pub request : c.request ≡ m.request
  pub left : IsLeft job c (left_in job m p)
  pub wait : c.wait ≡ wait_of job c.request p
