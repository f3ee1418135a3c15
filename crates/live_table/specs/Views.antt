-- What seats know: their views, what a step adds to one, and what it tells.
use Rattle.std.specs.Prelude.{ℕ, ◌≡◌, ◌+◌, ◌<◌, Bool, List, [], ◌∷◌, ◌++◌, length, Some, None, Option, IsSome, if◌then◌else◌}
use Rattle.std.specs.List.{range_with_len}
use Rattle.atomic_table.specs.Table.{Me}
use Rattle.ft_base.specs.declared.item.Item.{Item}
use Rattle.ft_base.specs.declared.item.Stamped.{Stamped}
use Rattle.ft_base.specs.declared.turn.Actor.{Actor}
use Rattle.ft_base.specs.declared.turn.Actor.TheVariants.{Control as ByControl, Cpu as ByCpu}
use Rattle.ft_base.specs.Job.{usual_lines, usual_rings, Job}
use Rattle.ft_hist.specs.Placing.{AreCounted}
use Rattle.word_machine_laws.specs.Led.{in_order, with_next}
use Rattle.word_map.specs.Contents.{low}
use Rattle.word_map.specs.Ops.{WordOp, Mark}
use Rattle.word_machine.specs.Control.{control_next}
use Rattle.word_machine.specs.Cpu.{cpu_next}
use Rattle.word_machine.specs.Laws.{CpuTakes, IsOnWord, room_on}
use Rattle.task_core.specs.TaskOps.{item_in}
use Rattle.ft_machine.specs.Fed.{control_fed, control_items, cpu_fed, cpu_items}
use Rattle.dealt_seats.specs.declared.view.Part.{Part as SeatPart}
use Rattle.dealt_seats.specs.declared.view.View.{View as SeatView}
use Rattle.dealt_seats.specs.Views.{change, known_in, view}
use Rattle.dealt_seats.specs.Views as seats

-- ## views

-- an actor, with the values that it has taken
abbrev pub Part : Type 0
Part = SeatPart (List ℕ)

-- what a seat knows: the job, and with the lines that are led that by which its own actor goes
abbrev pub View : Type 0
View = SeatView Job Job (List ℕ)

-- control's, after so many CPUs were split off: control goes by the job with the lines that were led so far
abbrev pub control_view : Job → Job → ℕ → List ℕ → View
control_view job led split values = seats.first_view job led split values

-- CPU c's, which goes by the whole job
abbrev pub cpu_view : Job → ℕ → List ℕ → View
cpu_view job c values = seats.cpu_view job job c values

-- a job of nobody
abbrev pub no_job : Job
no_job = record { version = 1; functions = []; users = []; frames = 0; tramps = 0; quanta = []; tasks = []; ctls = []; lines = usual_lines; rings = usual_rings; schedule = [] }

-- the view of a seat that has joined another
abbrev pub spent : View
spent = seats.spent_view no_job no_job

-- the values of the seat's own actor
abbrev pub values_of : List Part → List ℕ
values_of parts = known_in [] parts

-- ## lines that are led

-- the job with the lines that are led at first: all, or none if they are withheld
abbrev pub led_first : Job → Bool → Job
led_first job withheld = if withheld then in_order job [] else job

-- the numbers of these lines
abbrev pub order_first : Job → Bool → List ℕ
order_first job withheld = if withheld then [] else range_with_len 0 (length job.ctls)

-- the job so far, once this line is led as well, if one is
abbrev pub led_on : Job → Job → Option ℕ → Job
led_on job led None = led
led_on job led (Some k) = with_next job led k

-- the view of a seat that leads it
abbrev pub leading : Option ℕ → View → View
leading line w = view w.job (led_on w.job w.led line) w.split w.parts

-- ## moves

-- the seat's own actor takes a value
abbrev pub took : View → ℕ → View
took w v = change (λ values. values ++ v ∷ []) w

-- the view of the CPU that is split off next
abbrev pub dealt : View → View
dealt v = cpu_view v.job v.split []

-- ## what a step tells

-- Of an operation that gave v, if the actor had marked these items, and of the operation after it.
--   rising   the place of a mark is after those of the items
--   next     the next operation is on a word of the job
pub record OperationFacts (job : Job) (items : List Stamped) (op next : Option WordOp) (v : ℕ) : Type 0 where
  pub rising : (item : Item) → op ≡ Some (Mark item) → AreCounted (low v) items
  pub next' : IsOnWord job next

-- of control's
abbrev pub ControlFacts : Job → ℕ → List ℕ → Type 0
ControlFacts led v values =
    OperationFacts led (control_items led values) (control_next led (control_fed led values)) (control_next led (control_fed led (values ++ v ∷ []))) v

-- of CPU c's: besides, the value fits, and there is room for what is marked
pub record CpuFacts (job : Job) (c v : ℕ) (values : List ℕ) : Type 0 where
  pub fits : CpuTakes job (cpu_fed job c values) v
  pub room : IsSome (item_in (cpu_next job (cpu_fed job c values))) → length (cpu_items job c values) < room_on job c
  pub told : OperationFacts job (cpu_items job c values) (cpu_next job (cpu_fed job c values)) (cpu_next job (cpu_fed job c (values ++ v ∷ []))) v

-- of that of an actor that goes by this job
abbrev pub FactsAt : Job → ℕ → List ℕ → Actor → Type 0
FactsAt job v values ByControl = ControlFacts job v values
FactsAt job v values (ByCpu c) = CpuFacts job c.0 v values

-- of the seat's own actor's
abbrev pub FactsIn : Job → ℕ → List Part → Type 0
FactsIn job v [] = ⊥
FactsIn job v (x ∷ xs) = FactsAt job v x.known x.actor

-- the seat's own actor takes a value, and what is told of it
abbrev pub TakesOne : {S : Type 0} → Me S View → ℕ → Me S View → Type 0
TakesOne m v n = (n ≡ (took m.0 v, m.1)) × FactsIn m.0.led v m.0.parts
