use Rattle.std.proofs.Common.{◌≡◌, ◌≤◌, length, take, vec_capacity}
use Rattle.control_core.proofs.control.copies.Given as goal

abbrev pub invariant-loop-ctl : goal.invariant-loop-ctl
invariant-loop-ctl l = (l.lines.items ≡ take l.ctl-index l.ctls) × (length l.ctls ≤ vec_capacity l.lines)
