-- What a run makes of seats.
use Rattle.std.specs.Prelude.{◌≡◌, ℕ, List, length, slice_get, Some, None}
use Rattle.word_machine.specs.Control.{control_next}
use Rattle.word_machine.specs.Cpu.{cpu_next}
use Rattle.live_table.specs.Seats.{ControlPlace, CpuPlace, control_at, cpu_at}

-- the same seat of a CPU, whatever values the CPU has taken
pub record IsSameCpu (s t : CpuPlace) : Type 0 where
  pub table_id : t.table_id ≡ s.table_id
  pub id : t.id ≡ s.id
  pub job : t.job ≡ s.job
  pub number : t.number ≡ s.number

-- control's same seat, to which the same lines were led, whatever values control has taken
pub record IsSameControl (s t : ControlPlace) : Type 0 where
  pub table_id : t.table_id ≡ s.table_id
  pub id : t.id ≡ s.id
  pub job : t.job ≡ s.job
  pub led : t.led ≡ s.led
  pub order : t.order ≡ s.order
  pub split : t.split ≡ s.split

-- the same seat of a CPU, which has no step left
abbrev pub IsEndedCpu : CpuPlace → CpuPlace → Type 0
IsEndedCpu s t = IsSameCpu s t × (cpu_next t.job (cpu_at t) ≡ None)

-- control's same seat, which has no step left
abbrev pub IsEndedControl : ControlPlace → ControlPlace → Type 0
IsEndedControl s t = IsSameControl s t × (control_next t.led (control_at t) ≡ None)

-- the same CPUs' seats in the same order, each at its end
pub record AreEnded (ss ts : List CpuPlace) : Type 0 where
  pub count : length ts ≡ length ss
  pub each : (k : ℕ) (t : CpuPlace) → slice_get ts k ≡ Some t → (s : CpuPlace) × (slice_get ss k ≡ Some s) × IsEndedCpu s t
