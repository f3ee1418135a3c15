-- What a page reader keeps.
use Rattle.std.specs.Prelude.{◌<◌}
use Rattle.hash_pages.specs.declared.reader.PageReader.TheInside.{Inside}
use Rattle.hash_pages.specs.declared.reader.ReadPhase.{ReadPhase}
use Rattle.hash_pages.specs.declared.reader.ReadPhase.TheVariants.{AtSel, AtFilter, AtNotrace, Ended}
use Rattle.hash_pages.specs.declared.reader.Verdict.{Verdict}
use Rattle.hash_pages.specs.declared.reader.Verdict.TheVariants.{Open, Off, Apart, On}
use Rattle.hash_pages.specs.Reads.{Read}

-- the read of the fields
abbrev pub read_of : Inside → Read
read_of r = record { shape = r.map; user = r.user.0; func = r.func.0; phase = r.phase }

-- and the fields of the read
abbrev pub fields_of : Read → Inside
fields_of r = record { map = r.shape; user = record { 0 = r.user }; func = record { 0 = r.func }; phase = r.phase }

-- a verdict at an end
abbrev pub IsFound : Verdict → Type 0
IsFound Open = ⊥
IsFound Off = Unit {0}
IsFound Apart = Unit {0}
IsFound (On reg) = Unit {0}

-- the copy that is read is there, and an end has found something
abbrev pub IsPhase : ReadPhase → Type 0
IsPhase AtSel = Unit {0}
IsPhase (AtFilter copy reg) = copy < 2
IsPhase (AtNotrace copy reg) = copy < 2
IsPhase (Ended verdict) = IsFound verdict

-- the user, the function and the copy are there
pub record ReadInvariant (r : Inside) : Type 0 where
  pub has_user : r.user.0 < r.map.users
  pub has_func : r.func.0 < r.map.funcs
  pub has_phase : IsPhase r.phase
