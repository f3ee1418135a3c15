-- What lanes take turns at: control, to which their commands are led, and the CPUs' seats that are stepped in turn with it.
use Rattle.std.specs.Prelude.{ℕ, ◌≡◌, ◌+◌, ◌≤◌, List, [], ◌∷◌, length, map, sum, None}
use Rattle.ft_base.specs.declared.limits.TheConstants.{COMMANDS, LANES, UNTILS}
use Rattle.desk_lock.specs.Journals.{IsInOrder, IsMerge}
use Rattle.word_machine.specs.Control.{control_next}
use Rattle.ft_job.specs.Plans.{HasLanes}
use Rattle.live_table.specs.Seats.{Board, ControlPlace, ControlSitsAt, control_at}
use Rattle.live_table.specs.Views.{no_job}
use Rattle.live_seats.specs.AnySeats.{AreEndedSeats, AreSameSeats, AreSeatsOf, actor_of, without_rings}
use Rattle.live_seats.specs.declared.seat.AnySeat.{AnySeat}
use Rattle.live_seats.specs.declared.seat.AnySeat.TheVariants.{Control}
use Rattle.live_lanes.specs.LaneItems.{AreCounts, as_items}

-- the lanes of the commands, control's seat, and the CPUs'
pub record Conducted : Type 0 where
  pub lanes : List ℕ
  pub control : ControlPlace
  pub here : List AnySeat

-- whose seats they are, as gates number actors
abbrev pub actors_of : List AnySeat → List ℕ
actors_of seats = map actor_of seats

-- What it keeps, at the table of a board, with the seats of CPUs that it was given.
--   live', lanes'   the table is the board's, and the lanes are its job's
--   planned, few    each command has a lane, and there are no more lines than there may be
--   sits, over      control's seat is the table's, and at its end
--   given, same     the CPUs' seats that were given are the table's, and are still the same
--   named           these are their actors
--   counted         so many commands has each lane
--   order           what was led of each lane is its first commands, in their order
pub record IsConducted (b : Board) (counts name : List ℕ) (seats : List AnySeat) (live : Board) (lanes : List ℕ) (control : ControlPlace) (here : List AnySeat) : Type 0 where
  pub live' : live ≡ b
  pub lanes' : lanes ≡ b.job.lines.lanes
  pub planned : HasLanes b.job
  pub few : length lanes ≤ COMMANDS + UNTILS
  pub sits : ControlSitsAt b control
  pub over : control_next control.led (control_at control) ≡ None
  pub given : AreSeatsOf (without_rings b) seats
  pub same : AreSameSeats seats here
  pub named : actors_of seats ≡ name
  pub counted : AreCounts lanes counts
  pub order : IsInOrder counts (as_items lanes control.order)

-- a table of nobody
abbrev pub no_board : Board
no_board = record { table_id = record { words = 0; slots = 0; views_name = 0; atom = 0; block = 0; offset = 0; slot_names = [] }; job = no_job }

-- Before the first turn.
--   sits, over, none   control's seat is the table's, at its end, and nothing was led
--   lanes', planned, few, counted   as above
--   lanes'', items     there are no more lanes than there may be, and no more commands than have a lane
pub record IsReady (b : Board) (lanes counts : List ℕ) (control : ControlPlace) : Type 0 where
  pub sits : ControlSitsAt b control
  pub over : control_next control.led (control_at control) ≡ None
  pub none : control.order ≡ []
  pub lanes' : lanes ≡ b.job.lines.lanes
  pub planned : HasLanes b.job
  pub few : length lanes ≤ COMMANDS + UNTILS
  pub counted : AreCounts lanes counts
  pub lanes'' : length counts ≤ LANES
  pub items : sum counts ≤ length lanes

-- After a run, of the CPUs' seats that were given and the seats that came back.
--   control, cpus, back'   these are control's and the CPUs'
--   cpus'            the CPUs' are the same, each at its end
--   sits, over       control's is the table's, and at its end
--   merge            what was led of the lanes is all that they have, and of each lane in its order
pub record IsRun (b : Board) (lanes counts : List ℕ) (given back : List AnySeat) : Type 0 where
  pub control : ControlPlace
  pub cpus : List AnySeat
  pub back' : back ≡ Control control ∷ cpus
  pub cpus' : AreEndedSeats given cpus
  pub sits : ControlSitsAt b control
  pub over : control_next control.led (control_at control) ≡ None
  pub merge : IsMerge counts (as_items lanes control.order)
