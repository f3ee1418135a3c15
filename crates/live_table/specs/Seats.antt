-- What contracts see of the table and of seats.
use Rattle.std.specs.Prelude.{ℕ, ◌≡◌, ◌+◌, ◌<◌, ◌≤◌, Bool, true, false, List, [], ◌∷◌, ◌++◌, length, map, reverse, slice_get, Option, Some, None, if◌then◌else◌}
use Rattle.atomic_table.specs.Seated.{TableId}
use Rattle.atomic_table.specs.Table.{Me}
use Rattle.ft_base.specs.declared.item.Item.{Item}
use Rattle.ft_base.specs.declared.item.Stamped.{Stamped}
use Rattle.ft_base.specs.declared.limits.TheConstants.{ITEMS}
use Rattle.ft_base.specs.declared.turn.Actor.{Actor}
use Rattle.ft_base.specs.Job.{Job}
use Rattle.ft_hist.specs.Placing.{by_place}
use Rattle.word_machine_laws.specs.Led.{in_order}
use Rattle.word_machine_laws.specs.Orders.{AreLed}
use Rattle.word_map.specs.Places.{len}
use Rattle.word_map.specs.Shapes.{shape_of}
use Rattle.word_machine.specs.Control.{Control, control_next}
use Rattle.word_machine.specs.Cpu.{Cpu, cpu_got, cpu_next, cpu_start}
use Rattle.word_machine.specs.Laws.{IsOnWord, room_on}
use Rattle.word_machine.specs.Limits.{IsLimited}
use Rattle.word_machine.specs.Machine.{run, start}
use Rattle.control_core.specs.Seated.{Seated, control_of}
use Rattle.control_core.specs.Seated as control
use Rattle.cpu_core.specs.declared.parts.Parts.{Parts as CpuParts}
use Rattle.cpu_core.specs.Cpus.{cpu_of}
use Rattle.cpu_core.specs.Cpus as cpu
use Rattle.cpu_core.specs.CpuSteps.{marks_in}
use Rattle.ft_machine.specs.Fed.{control_fed, control_items, cpu_fed, cpu_items}
use Rattle.live_table.specs.Views.{Part, View, control_view, cpu_view, led_first, order_first, values_of}
use Rattle.dealt_seats.specs.Views as seats

-- ## the table

-- which table it is, and the job
pub record Board : Type 0 where
  pub table_id : TableId
  pub job : Job

-- the table is the job's
pub record IsTable (b : Board) : Type 0 where
  pub limited : IsLimited b.job
  pub words : b.table_id.words ≡ len (shape_of b.job)
  pub slots : b.table_id.slots ≡ 0

-- ## seats

-- a CPU's seat: its table, its id there, the job, the CPU's number, and the values that it has taken
pub record CpuPlace : Type 0 where
  pub table_id : TableId
  pub id : ℕ
  pub job : Job
  pub number : ℕ
  pub values : List ℕ

-- control's seat: besides, the job with the lines that were led so far, their numbers in the order in which they were led, and how many
-- CPUs were split off
pub record ControlPlace : Type 0 where
  pub table_id : TableId
  pub id : ℕ
  pub job : Job
  pub led : Job
  pub order : List ℕ
  pub split : ℕ
  pub values : List ℕ

-- places that increase
abbrev pub IsRising : List Stamped → Type 0
IsRising items = (j k : ℕ) (x y : Stamped) → j < k → slice_get items j ≡ Some x → slice_get items k ≡ Some y → x.place < y.place

-- the item that a CPU marks with the last of these values, if that marks one
abbrev pub last_mark : Job → Cpu → List ℕ → Option Stamped
last_mark job me [] = None
last_mark job me (v ∷ []) = slice_get (marks_in (cpu_next job me) v) 0
last_mark job me (v ∷ w ∷ vs) = last_mark job (cpu_got job me v) (w ∷ vs)

-- The last of these items was marked by a CPU's last step if that is fresh; else the step marked none, or there was none.
pub record IsLast (items : List Stamped) (fresh : Bool) (last : Option Stamped) : Type 0 where
  pub marked : fresh ≡ true → (x : Stamped) × (last ≡ Some x) × ((before : List Stamped) × (items ≡ before ++ x ∷ []))
  pub none : fresh ≡ false → last ≡ None

-- What a CPU's seat keeps.
--   view'          the seat knows the CPU's values, and nothing else
--   limited, is_for, within   the CPU is one of the job's
--   fed            it is what these values make of it
--   marked, rising the items that it has marked are those values', and their places increase
--   last           it is known whether its last step marked the last of them
--   room, left     it has room for all that it can mark, and has forgotten nothing
--   few            and it has marked no more
--   next           its next operation is on a word of the job
pub record CpuSits {S : Type 0} (me : Me S View) (c : ℕ) (x : CpuParts) (fresh : Bool) : Type 0 where
  pub view' : me ≡ (cpu_view me.0.job c (values_of me.0.parts), [])
  pub limited : IsLimited me.0.job
  pub is_for : cpu.IsFor me.0.job x
  pub within : c < length me.0.job.quanta
  pub fed : cpu_of me.0.job x ≡ cpu_fed me.0.job c (values_of me.0.parts)
  pub marked : x.marked.items ≡ cpu_items me.0.job c (values_of me.0.parts)
  pub rising : IsRising x.marked.items
  pub last : IsLast x.marked.items fresh (last_mark me.0.job (cpu_start me.0.job c) (values_of me.0.parts))
  pub room : x.marked.room ≡ room_on me.0.job c
  pub few : length x.marked.items ≤ room_on me.0.job c
  pub left : x.marked.left ≡ ITEMS
  pub next : IsOnWord me.0.job (cpu_next me.0.job (cpu_of me.0.job x))

-- What control's seat keeps.
--   view'          the seat knows the lines that were led, and control's values, and nothing else
--   lines, once    control's lines are the job's, and each was led once at most
--   led            the lines that it knows are those that control has led
--   limited, is_for, fed, marked, rising, next   as a CPU's, for the job with these lines
pub record ControlSits {S : Type 0} (me : Me S View) (x : Seated) : Type 0 where
  pub view' : me ≡ (control_view me.0.job me.0.led me.0.split (values_of me.0.parts), [])
  pub lines : x.all ≡ me.0.job.ctls
  pub once : AreLed (length me.0.job.ctls) x.order
  pub led : me.0.led ≡ in_order me.0.job x.order
  pub limited : IsLimited me.0.led
  pub is_for : control.IsFor me.0.led x
  pub fed : control_of x ≡ control_fed me.0.led (values_of me.0.parts)
  pub marked : x.items ≡ control_items me.0.led (values_of me.0.parts)
  pub rising : IsRising x.items
  pub next : IsOnWord me.0.led (control_next me.0.led (control_of x))

-- the CPU that sits there
abbrev pub cpu_at : CpuPlace → Cpu
cpu_at s = cpu_fed s.job s.number s.values

-- the control that sits there
abbrev pub control_at : ControlPlace → Control
control_at s = control_fed s.led s.values

-- what the CPU has marked
abbrev pub items_at : CpuPlace → List Stamped
items_at s = cpu_items s.job s.number s.values

-- what the CPU's last step has marked, if it marked anything
abbrev pub last_at : CpuPlace → Option Stamped
last_at s = last_mark s.job (cpu_start s.job s.number) s.values

-- what control has marked
abbrev pub control_items_at : ControlPlace → List Stamped
control_items_at s = control_items s.led s.values

-- ## the seats of a table

-- control's code, if its lines are withheld or not
abbrev pub withheld_if : Bool → Seated → Seated
withheld_if withheld x = if withheld then record x { lines = []; order = [] } else x

-- control has not stepped, all its lines are led or withheld, and so many CPUs were split off
pub record IsOpen (b : Board) (s : ControlPlace) (withheld : Bool) (split : ℕ) : Type 0 where
  pub table_id : s.table_id ≡ b.table_id
  pub job : s.job ≡ b.job
  pub led : s.led ≡ led_first b.job withheld
  pub order : s.order ≡ order_first b.job withheld
  pub split' : s.split ≡ split
  pub values : s.values ≡ []

-- one more CPU was split off
abbrev pub IsDealt : ControlPlace → ControlPlace → Type 0
IsDealt s t = t ≡ record s { split = s.split + 1 }

-- the seat of CPU c, which has not stepped
abbrev pub IsNewCpu : Board → CpuPlace → ℕ → Type 0
IsNewCpu b s c = (s.table_id ≡ b.table_id) × (s.job ≡ b.job) × (s.number ≡ c) × (s.values ≡ [])

-- these are the seats of the table's CPUs in order, and none has stepped
pub record AreNew (b : Board) (cpus : List CpuPlace) : Type 0 where
  pub count : length cpus ≡ length b.job.quanta
  pub each : (k : ℕ) (s : CpuPlace) → slice_get cpus k ≡ Some s → IsNewCpu b s k

-- a seat of the table
abbrev pub SitsAt : Board → CpuPlace → Type 0
SitsAt b s = (s.table_id ≡ b.table_id) × (s.job ≡ b.job)

-- control's seat at the table
abbrev pub ControlSitsAt : Board → ControlPlace → Type 0
ControlSitsAt b s = (s.table_id ≡ b.table_id) × (s.job ≡ b.job)

-- these are the seats of the table's CPUs in order
pub record AreSeats (b : Board) (cpus : List CpuPlace) : Type 0 where
  pub count : length cpus ≡ length b.job.quanta
  pub each : (k : ℕ) (s : CpuPlace) → slice_get cpus k ≡ Some s → SitsAt b s × (s.number ≡ k)

-- ## all seats together

-- what they know of their actors
abbrev pub parts_of : List CpuPlace → List Part
parts_of ss = seats.parts_of (λ (s : CpuPlace). s.number) (λ s. s.values) ss

-- what all have marked
abbrev pub lists_at : ControlPlace → List CpuPlace → List (List Stamped)
lists_at control cpus = control_items_at control ∷ map items_at cpus

-- the history that they make
abbrev pub history_of : ControlPlace → List CpuPlace → List Item
history_of control cpus = by_place (lists_at control cpus)

-- the word machine makes this history, by the steps of some actors one after the other
abbrev pub IsMadeByTurns : Job → List Item → Type 0
IsMadeByTurns job items = (actors : List Actor) × (items ≡ reverse (run job actors (start job)).past)

-- each is at its end
pub record AreAtEnd (control : ControlPlace) (cpus : List CpuPlace) : Type 0 where
  pub control_over : control_next control.led (control_at control) ≡ None
  pub cpus_over : (k : ℕ) (s : CpuPlace) → slice_get cpus k ≡ Some s → cpu_next s.job (cpu_at s) ≡ None
