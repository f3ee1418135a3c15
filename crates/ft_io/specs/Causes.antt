-- Why a call fails, and what it leaves.
use Rattle.std.specs.Prelude.{ℕ, ◌+◌, ◌-◌, ◌^◌, ◌≤◌, ◌<◌, ◌≡◌, min, Bool, if◌then◌else◌, List, ◌++◌, length, Result, OnErr, Option}
use Rattle.std.specs.Io.KnownBytes.{Consumes, Appends}

-- a count of faults after one more fault, which stays at the last value of its type
abbrev pub one_more : ℕ → ℕ
one_more faults = min (faults + 1) (2 ^ 64 - 1)

-- a count of faults after a call that was one or not
abbrev pub count_after : Bool → ℕ → ℕ
count_after failed faults = if failed then one_more faults else faults

-- a count of faults rose, or is at the last value of its type
abbrev pub Rose : ℕ → ℕ → Type 0
Rose before now = one_more before ≤ now

-- a call takes nothing off the count of faults, and fails only if it counted one
pub record HasCause {T E : Type 0} (before now : ℕ) (result : Result T E) : Type 0 where
  pub later : before ≤ now
  pub failed : OnErr result (Rose before now)

-- more bytes than the limit were given
abbrev pub GaveMore : ℕ → Option (List ℕ) → Option (List ℕ) → Type 0
GaveMore limit old new = (bs : List ℕ) × Consumes old new bs × (limit < length bs)

-- some bytes were given, and not more than the limit
abbrev pub GaveAtMost : ℕ → Option (List ℕ) → Option (List ℕ) → Type 0
GaveAtMost limit old new = (bs : List ℕ) × Consumes old new bs × (length bs ≤ limit)

-- a beginning of the bytes was appended
abbrev pub AppendsFront : Option (List ℕ) → Option (List ℕ) → List ℕ → Type 0
AppendsFront old new bytes = (front : List ℕ) × (rest : List ℕ) × (bytes ≡ front ++ rest) × Appends old new front
