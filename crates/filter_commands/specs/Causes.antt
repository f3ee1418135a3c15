-- Which filter texts are refused, and why: the first cause that holds.
use Rattle.std.specs.Prelude.{◌≡◌, ◌⊎◌, ◌||◌, ℕ, Bool, true, false, [], ◌∷◌, Option, Some, None, is_some, if◌then◌else◌}
use Rattle.glob_filter.specs.Causes.{first_cause as pattern_cause}
use Rattle.filter_commands.specs.Forms.{Text, TextForm, line, named, in_module, is_outside, unmarked, form_of, glob_or_all}
use Rattle.filter_commands.specs.declared.faults.EditFault.{EditFault}
use Rattle.filter_commands.specs.declared.faults.EditFault.TheVariants.{Pattern, Index, Command, NoMemory}

-- the text has a `:` and isn't of the module form
abbrev pub is_misformed : Option TextForm → Bool
is_misformed None = true
is_misformed (Some form) = false

-- a table of this size doesn't have the line of this number; lines count from 1
abbrev pub has_no_line : ℕ → ℕ → Bool
has_no_line size number = is_outside size number

-- the text is the number of a line that the table of this size doesn't have
abbrev pub is_off : ℕ → Option TextForm → Bool
is_off size (Some (line number)) = has_no_line size number
is_off size _ = false

-- a text is no pattern
abbrev pub is_bad_glob : Text → Bool
is_bad_glob text = is_some (pattern_cause text)

-- a glob of the text is no pattern
abbrev pub has_bad_glob : Option TextForm → Bool
has_bad_glob (Some (named glob)) = is_bad_glob glob
has_bad_glob (Some (in_module glob negated owner)) = is_bad_glob (glob_or_all glob) || is_bad_glob owner
has_bad_glob _ = false

-- why a text of this form, or of none, is refused over a table of this size
abbrev pub form_cause : ℕ → Option TextForm → Option EditFault
form_cause size form = if is_misformed form then Some Command
    else (if is_off size form then Some Index
    else (if has_bad_glob form then Some Pattern else None))

-- why a text is refused over a table of this size; an empty text has nothing to append
abbrev pub first_cause : ℕ → Bool → Text → Option EditFault
first_cause size append [] = if append then Some Pattern else None
first_cause size append (b ∷ text) = form_cause size (form_of (unmarked (b ∷ text)).1)

-- the refusal is this cause, or memory ran out
abbrev pub IsCause : Option EditFault → EditFault → Type 0
IsCause cause fault = (fault ≡ NoMemory) ⊎ (cause ≡ Some fault)
