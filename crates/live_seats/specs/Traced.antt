-- A CPU's seat at the words, and its seat at the rings.
use Rattle.std.specs.Prelude.{◌≡◌, ℕ, ◌≤◌, List, [], ◌∷◌, length, slice_get, Some}
use Rattle.atomic_table.specs.Seated.{TableId}
use Rattle.word_machine.specs.Laws.{room_on}
use Rattle.ring_rules.specs.Plan.{TracePlan, plan_of}
use Rattle.ring_table.specs.Seats.{SeatHas, SeatPlace}
use Rattle.live_table.specs.Seats.{CpuPlace, IsRising, items_at}

-- the two seats of a CPU
pub record TracedPlace : Type 0 where
  pub cpu : CpuPlace
  pub ring : SeatPlace

-- What they keep.
--   plan'    the ring is by the plan of the CPU's job
--   rising   the places of what the CPU has marked increase
--   has      the ring was offered that
--   room'    and it has room for all that the CPU can mark
pub record IsTraced (t : TracedPlace) : Type 0 where
  pub plan' : t.ring.plan ≡ plan_of t.cpu.job
  pub rising : IsRising (items_at t.cpu)
  pub has : SeatHas (plan_of t.cpu.job) (items_at t.cpu) t.ring
  pub room' : room_on t.cpu.job t.cpu.number ≤ t.ring.room

-- which seat at the rings it is: its table, the plan, and the CPU's number
pub record RingName : Type 0 where
  pub table_id : TableId
  pub plan : TracePlan
  pub number : ℕ

-- that of a seat
abbrev pub ring_name : SeatPlace → RingName
ring_name s = record { table_id = s.table_id; plan = s.plan; number = s.number }

-- ## the seats of a table

-- the seats of CPUs two by two, if there are as many of both
abbrev pub traced : List CpuPlace → List SeatPlace → List TracedPlace
traced [] rings = []
traced (s ∷ ss) [] = []
traced (s ∷ ss) (r ∷ rs) = record { cpu = s; ring = r } ∷ traced ss rs

-- the two seats of each CPU
pub record AreTraced (cpus : List CpuPlace) (rings : List SeatPlace) : Type 0 where
  pub count : length rings ≡ length cpus
  pub each : (k : ℕ) (s : CpuPlace) (r : SeatPlace) → slice_get cpus k ≡ Some s → slice_get rings k ≡ Some r
      → IsTraced record { cpu = s; ring = r }

-- the same seats at the rings in the same order
pub record AreSameRings (ss ts : List SeatPlace) : Type 0 where
  pub count : length ts ≡ length ss
  pub each : (k : ℕ) (t : SeatPlace) → slice_get ts k ≡ Some t → (s : SeatPlace) × (slice_get ss k ≡ Some s) × (ring_name t ≡ ring_name s)
