-- What a step makes of a seat, and what a line does that is led.
use Rattle.std.specs.Prelude.{ℕ, suc, ◌≡◌, [], ◌∷◌, ◌++◌, Option, Some, None}
use Rattle.ft_base.specs.declared.item.Item.TheVariants.{Begin}
use Rattle.ft_base.specs.Job.{Job}
use Rattle.word_machine_laws.specs.Led.{with_next}
use Rattle.word_map.specs.Ops.{WordOp, Mark, placed}
use Rattle.word_map.specs.Shapes.{shape_of}
use Rattle.word_machine.specs.Control.{control_next}
use Rattle.word_machine.specs.Cpu.{cpu_next}
use Rattle.word_machine.specs.Laws.{CpuTakes}
use Rattle.live_table.specs.declared.live.Going.{Going}
use Rattle.live_table.specs.declared.live.Going.TheVariants.{More, End}
use Rattle.live_table.specs.Views.{View, control_view, cpu_view}
use Rattle.live_table.specs.AtomicSteps.{AtomicStep}
use Rattle.live_table.specs.Operations.{op_after, op_gives, op_word}
use Rattle.live_table.specs.Seats.{ControlPlace, CpuPlace, control_at, cpu_at}

-- a CPU's seat after one more value
abbrev pub with_value : CpuPlace → ℕ → CpuPlace
with_value s v = record { table_id = s.table_id; id = s.id; job = s.job; number = s.number; values = s.values ++ v ∷ [] }

-- control's
abbrev pub with_control_value : ControlPlace → ℕ → ControlPlace
with_control_value s v = record s { values = s.values ++ v ∷ [] }

-- control's after one more line
abbrev pub with_line : ControlPlace → ℕ → ControlPlace
with_line s k = record s { led = with_next s.job s.led k; order = s.order ++ k ∷ [] }

-- what the CPU's seat knows
abbrev pub known_to : CpuPlace → View
known_to s = cpu_view s.job s.number s.values

-- what control's knows
abbrev pub known_to_control : ControlPlace → View
known_to_control s = control_view s.job s.led s.split s.values

-- an operation was made on the table of a job, at one moment at which its word held n; if it leads a line, this is its number
abbrev pub IsMade : Job → Option ℕ → WordOp → ℕ → View → View → Type 0
IsMade job line op n known knows =
    AtomicStep job line (op_word (placed (shape_of job) op)) n (op_after (placed (shape_of job) op) n) known knows

-- the value that it gave
abbrev pub given_by : Job → WordOp → ℕ → ℕ
given_by job op n = op_gives (placed (shape_of job) op) n

-- One step of the CPU: its next operation, at a moment at which the operation's word held n. The seat has one value more, that which the
-- operation gave, and which fits the CPU. At its end it makes none.
abbrev pub CpuSteps : CpuPlace → Going → CpuPlace → Type 0
CpuSteps s End t = (cpu_next s.job (cpu_at s) ≡ None) × (t ≡ s)
CpuSteps s More t =
    (op : WordOp) × (n : ℕ) × (cpu_next s.job (cpu_at s) ≡ Some op) × (t ≡ with_value s (given_by s.job op n))
    × CpuTakes s.job (cpu_at s) (given_by s.job op n) × IsMade s.job None op n (known_to s) (known_to t)

-- one step of control
abbrev pub ControlSteps : ControlPlace → Going → ControlPlace → Type 0
ControlSteps s End t = (control_next s.led (control_at s) ≡ None) × (t ≡ s)
ControlSteps s More t =
    (op : WordOp) × (n : ℕ) × (control_next s.led (control_at s) ≡ Some op) × (t ≡ with_control_value s (given_by s.job op n))
    × IsMade s.job None op n (known_to_control s) (known_to_control t)

-- the mark of the Begin of the command that control comes to next
abbrev pub next_begin : ControlPlace → WordOp
next_begin s = Mark (Begin (suc (control_at s).commands_done))

-- The line of this number is led: it is the next one, the mark of its Begin is control's next operation then, and that is made, all in one
-- step, at a moment at which the clock held n. The seat has one line more, and one value.
abbrev pub ControlLeads : ControlPlace → ℕ → ControlPlace → Type 0
ControlLeads s k t =
    (n : ℕ) × (control_next (with_line s k).led (control_at (with_line s k)) ≡ Some (next_begin s)) × (t ≡ with_control_value (with_line s k) n)
    × IsMade s.job (Some k) (next_begin s) n (known_to_control s) (known_to_control t)
