-- The items of control and of the CPUs so far, if they are few.
use Rattle.std.proofs.Common.{◌≡◌, ◌+◌, ◌<◌, ◌^◌, length, sum_by, take}
use Rattle.live_table.specs.Seats.{CpuPlace, control_items_at, items_at}
use Rattle.live_table.proofs.rooms.marked.Given as goal

abbrev pub invariant-loop-cpu : goal.invariant-loop-cpu
invariant-loop-cpu l =
    length (control_items_at l.control) + sum_by (λ (s : CpuPlace). length (items_at s)) (take l.cpu-index l.cpus) < 2 ^ 32
    → l.all ≡ length (control_items_at l.control) + sum_by (λ (s : CpuPlace). length (items_at s)) (take l.cpu-index l.cpus)
