use Rattle.std.proofs.Common.{◌≡◌, ◌≤◌, ◌++◌, ◌+◌, length, drop, vec_capacity, vec_len}
use Rattle.word_machine_laws.specs.Orders.{picked}
use Rattle.ft_job.proofs.order.picked_numbers.Given as goal

-- what was picked, and what is still to be picked; there is room for all of it
abbrev pub invariant-loop-place : goal.invariant-loop-place
invariant-loop-place l = (l.made.items ++ picked l.numbers (drop l.place-index l.order) ≡ picked l.numbers l.order) × (vec_len l.made + length (drop l.place-index l.order) ≤ vec_capacity l.made)
