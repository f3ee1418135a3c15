use Rattle.std.proofs.Common.{◌≡◌, ◌≤◌, ◌++◌, ◌+◌, length, drop, vec_capacity, vec_len}
use Rattle.word_machine_laws.specs.Orders.{picked}
use Rattle.ft_job.proofs.order.picked_lines.Given as goal

-- what was picked, and what is still to be picked; there is room for all of it
abbrev pub invariant-loop-line : goal.invariant-loop-line
invariant-loop-line l = (l.made.items ++ picked l.lines (drop l.line-index l.order) ≡ picked l.lines l.order) × (vec_len l.made + length (drop l.line-index l.order) ≤ vec_capacity l.made)
