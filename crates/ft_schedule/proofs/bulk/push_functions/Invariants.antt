use Rattle.std.proofs.Common.{◌≡◌, ◌++◌, string_bytes}
use Rattle.ft_schedule.specs.Bulk.{function_lines}
use Rattle.ft_schedule.proofs.bulk.push_functions.Given as goal

abbrev pub invariant-loop-function : goal.invariant-loop-function
invariant-loop-function l = string_bytes l.text ≡ string_bytes l.fn.text ++ function_lines l.function
