-- Seats of either kind.
use Rattle.std.specs.Prelude.{◌≡◌, ℕ, ◌+◌, List, [], ◌∷◌, map, Option, Some, None}
use Rattle.std.specs.List.{All, AllZip}
use Rattle.atomic_table.specs.Seated.{TableId}
use Rattle.ft_base.specs.Job.{Job}
use Rattle.word_map.specs.Ops.{WordOp}
use Rattle.word_machine.specs.Control.{control_next}
use Rattle.word_machine.specs.Cpu.{cpu_next}
use Rattle.live_table.specs.Seats.{Board, ControlPlace, CpuPlace, control_at, cpu_at}
use Rattle.ring_table.specs.Seats.{Board as RingBoard}
use Rattle.live_seats.specs.declared.seat.AnySeat.{AnySeat}
use Rattle.live_seats.specs.declared.seat.AnySeat.TheVariants.{Control, Cpu, Traced}
use Rattle.live_seats.specs.Traced.{RingName, TracedPlace, ring_name}

-- ## the tables

-- the words of a job, and its rings if CPUs offer their items to them
pub record Tables : Type 0 where
  pub live : Board
  pub rings : Option RingBoard

-- these
abbrev pub tables : Board → Option RingBoard → Tables
tables live rings = record { live = live; rings = rings }

-- the words alone
abbrev pub without_rings : Board → Tables
without_rings b = tables b None

-- ## one seat

-- its table
abbrev pub table_of : AnySeat → TableId
table_of (Control s) = s.table_id
table_of (Cpu s) = s.table_id
table_of (Traced s) = s.cpu.table_id

-- its id there
abbrev pub id_of : AnySeat → ℕ
id_of (Control s) = s.id
id_of (Cpu s) = s.id
id_of (Traced s) = s.cpu.id

-- its job
abbrev pub job_of : AnySeat → Job
job_of (Control s) = s.job
job_of (Cpu s) = s.job
job_of (Traced s) = s.cpu.job

-- the job with the lines that were led so far: a CPU's whole job
abbrev pub led_of : AnySeat → Job
led_of (Control s) = s.led
led_of (Cpu s) = s.job
led_of (Traced s) = s.cpu.job

-- the numbers of these lines: none of a CPU's
abbrev pub order_of : AnySeat → List ℕ
order_of (Control s) = s.order
order_of (Cpu s) = []
order_of (Traced s) = []

-- its actor, as gates number them: 0 is control, and c + 1 is CPU c
abbrev pub actor_of : AnySeat → ℕ
actor_of (Control s) = 0
actor_of (Cpu s) = s.number + 1
actor_of (Traced s) = s.cpu.number + 1

-- how many CPUs were split off from it: none from a CPU's
abbrev pub split_of : AnySeat → ℕ
split_of (Control s) = s.split
split_of (Cpu s) = 0
split_of (Traced s) = 0

-- its next operation; none at its end
abbrev pub next_of : AnySeat → Option WordOp
next_of (Control s) = control_next s.led (control_at s)
next_of (Cpu s) = cpu_next s.job (cpu_at s)
next_of (Traced s) = cpu_next s.cpu.job (cpu_at s.cpu)

-- its seat at the rings, if it has one
abbrev pub ring_of : AnySeat → Option RingName
ring_of (Control s) = None
ring_of (Cpu s) = None
ring_of (Traced s) = Some (ring_name s.ring)

-- that seat is one of the rings', if there is one
abbrev pub IsRingOf : Option RingBoard → Option RingName → Type 0
IsRingOf rings None = Unit {0}
IsRingOf None (Some r) = ⊥
IsRingOf (Some b) (Some r) = (r.table_id ≡ b.table_id) × (r.plan ≡ b.plan)

-- it is one of the tables'
abbrev pub IsSeatOf : Tables → AnySeat → Type 0
IsSeatOf t s = (table_of s ≡ t.live.table_id) × (job_of s ≡ t.live.job) × IsRingOf t.rings (ring_of s)

-- the same seat, whatever values its actor has taken
pub record IsSameSeat (s t : AnySeat) : Type 0 where
  pub table_id : table_of t ≡ table_of s
  pub id : id_of t ≡ id_of s
  pub job : job_of t ≡ job_of s
  pub led : led_of t ≡ led_of s
  pub order : order_of t ≡ order_of s
  pub actor : actor_of t ≡ actor_of s
  pub split : split_of t ≡ split_of s
  pub ring : ring_of t ≡ ring_of s

-- the same seat, at its end
abbrev pub IsEndedSeat : AnySeat → AnySeat → Type 0
IsEndedSeat s t = IsSameSeat s t × (next_of t ≡ None)

-- ## the seats of a table

-- the CPUs' seats
abbrev pub cpus_as_any : List CpuPlace → List AnySeat
cpus_as_any cpus = map (λ s. Cpu s) cpus

-- control's seat, and after it the CPUs'
abbrev pub all_of : ControlPlace → List CpuPlace → List AnySeat
all_of control cpus = Control control ∷ cpus_as_any cpus

-- control's seat, and after it the two seats of each CPU
abbrev pub all_traced : ControlPlace → List TracedPlace → List AnySeat
all_traced control cpus = Control control ∷ map (λ s. Traced s) cpus

-- each is at its end
abbrev pub AreAtEnd : List AnySeat → Type 0
AreAtEnd seats = All (λ s. next_of s ≡ None) seats

-- each is one of the tables'
abbrev pub AreSeatsOf : Tables → List AnySeat → Type 0
AreSeatsOf t seats = All (IsSeatOf t) seats

-- the same seats in the same order
abbrev pub AreSameSeats : List AnySeat → List AnySeat → Type 0
AreSameSeats ss ts = AllZip IsSameSeat ss ts

-- the same seats in the same order, each at its end
abbrev pub AreEndedSeats : List AnySeat → List AnySeat → Type 0
AreEndedSeats ss ts = AllZip IsEndedSeat ss ts
