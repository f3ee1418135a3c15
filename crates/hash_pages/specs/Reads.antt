-- Asking whether a user is on at a function, by the words alone.
use Rattle.std.specs.Prelude.{ℕ, ◌/◌, Bool, true, not, ◌||◌, Option, Some, None, if◌then◌else◌}
use Rattle.word_map.specs.declared.shape.Shape.{Shape}
use Rattle.word_map.specs.Words.{Sel, Bits}
use Rattle.word_map.specs.declared.sel.Sel.{Sel as State}
use Rattle.word_map.specs.Contents.{is_marked, sel_on, sel_parts}
use Rattle.word_map.specs.Ops.{WordOp, Load}
use Rattle.hash_pages.specs.declared.reader.ReadPhase.{ReadPhase}
use Rattle.hash_pages.specs.declared.reader.ReadPhase.TheVariants.{AtSel, AtFilter, AtNotrace, Ended}
use Rattle.hash_pages.specs.declared.reader.Verdict.{Verdict}
use Rattle.hash_pages.specs.declared.reader.Verdict.TheVariants.{Open, Off, Apart, On}

-- a read: its user and function, and where it stands
pub record Read : Type 0 where
  pub shape : Shape
  pub user : ℕ
  pub func : ℕ
  pub phase : ReadPhase

-- the next operation in a phase: the user's state, then the words of the sets that have the function, in the copy that the state named
abbrev pub read_op : Read → ReadPhase → Option WordOp
read_op r AtSel = Some (Load (Sel r.user))
read_op r (AtFilter copy reg) = Some (Load (Bits r.user copy 0 (r.func / 64)))
read_op r (AtNotrace copy reg) = Some (Load (Bits r.user copy 1 (r.func / 64)))
read_op r (Ended verdict) = None

-- of a read; none at its end
abbrev pub read_next : Read → Option WordOp
read_next r = read_op r r.phase

-- an empty filter lets every function in
abbrev pub sets_read : State → ReadPhase
sets_read s = if s.empty then AtNotrace s.copy s.reg else AtFilter s.copy s.reg

-- a user that is asked whether it is on, and is off, is not asked further
abbrev pub state_by : Bool → ℕ → ReadPhase
state_by asked v = if not asked || sel_on v then sets_read (sel_parts v) else Ended Off

-- the same of a user that is asked
abbrev pub state_read : ℕ → ReadPhase
state_read v = state_by true v

-- the phase after a load gave this value
abbrev pub read_after : Bool → Read → ReadPhase → ℕ → ReadPhase
read_after asked r AtSel v = state_by asked v
read_after asked r (AtFilter copy reg) v = if is_marked v r.func then AtNotrace copy reg else Ended Apart
read_after asked r (AtNotrace copy reg) v = if is_marked v r.func then Ended Apart else Ended (On reg)
read_after asked r (Ended verdict) v = Ended verdict

-- a read after its next operation gave this value: of a user that is asked, or isn't
abbrev pub read_by : Bool → Read → ℕ → Read
read_by asked r v = record r { phase = read_after asked r r.phase v }

-- of one that is asked
abbrev pub read_got : Read → ℕ → Read
read_got r v = read_by true r v

-- what a read has found so far
abbrev pub verdict_of : ReadPhase → Verdict
verdict_of (Ended verdict) = verdict
verdict_of _ = Open
