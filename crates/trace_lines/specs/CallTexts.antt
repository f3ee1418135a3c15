-- The text of a call that is kept.
use Rattle.std.specs.Prelude.{◌≡◌, ◌≤◌, ◌++◌, codes, take}
use Rattle.std.specs.Fmt.{decimal}
use Rattle.trace_lines.specs.declared.calls.CallText.{CallText}

-- at the front of the bytes are the pid of the task, a dot and the number
abbrev pub IsText : CallText → Type 0
IsText text = (text.len ≤ 16) × (take text.len text.bytes ≡ decimal text.pid ++ (codes "." ++ decimal text.n))
