-- Which texts are refused as patterns, and why: the first cause that holds.
use Rattle.std.specs.Prelude.{◌≡◌, ◌⊎◌, ◌==◌, ℕ, List, Option, Some, None, length, nat_lt, if◌then◌else◌}
use Rattle.std.specs.List.{list_any}
use Rattle.ft_base.specs.declared.limits.TheConstants.{PATTERN_BYTES}
use Rattle.glob_filter.specs.declared.faults.PatternFault.{PatternFault}
use Rattle.glob_filter.specs.declared.faults.PatternFault.TheVariants.{Empty, Backslash, TooLong, NoMemory}

-- the code of a backslash
abbrev pub backslash : ℕ
backslash = 92

-- why a text is refused: it is empty, else it has a backslash, else it has more bytes than a pattern may have
abbrev pub first_cause : List ℕ → Option PatternFault
first_cause text = if length text == 0 then Some Empty
    else (if list_any (λ b. b == backslash) text then Some Backslash
    else (if nat_lt PATTERN_BYTES (length text) then Some TooLong else None))

-- the refusal is the text's first cause, or memory ran out
abbrev pub IsCause : List ℕ → PatternFault → Type 0
IsCause text fault = (fault ≡ NoMemory) ⊎ (first_cause text ≡ Some fault)
