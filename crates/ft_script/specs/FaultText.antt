-- The text of a refusal.
use Rattle.std.specs.Prelude.{List, ℕ, ◌++◌, codes}
use Rattle.std.specs.Fmt.{decimal}
use Rattle.ft_script.specs.declared.faults.Cause.{Cause}
use Rattle.ft_script.specs.declared.faults.Cause.TheVariants.{Version, Syntax, Limit, Duplicate, Unknown, Pattern, Unbalanced, Deadlock, Unloaded, NoMemory}
use Rattle.ft_script.specs.declared.faults.ScriptFault.{ScriptFault}

-- the word for a cause
abbrev pub cause_word : Cause → List ℕ
cause_word Version = codes "version"
cause_word Syntax = codes "syntax"
cause_word Limit = codes "limit"
cause_word Duplicate = codes "duplicate"
cause_word Unknown = codes "unknown"
cause_word Pattern = codes "pattern"
cause_word Unbalanced = codes "unbalanced"
cause_word Deadlock = codes "deadlock"
cause_word Unloaded = codes "unloaded"
cause_word NoMemory = codes "no memory"

-- the line and the cause
abbrev pub fault_text : ScriptFault → List ℕ
fault_text f = codes "line " ++ (decimal f.line ++ (codes ": " ++ cause_word f.cause))
