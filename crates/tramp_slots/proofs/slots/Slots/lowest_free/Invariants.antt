use Rattle.std.proofs.Common.{◌≡◌, ℕ, ◌<◌, false}
use Rattle.tramp_slots.specs.Holders.{is_free_slot}
use Rattle.tramp_slots.proofs.slots.Slots.lowest_free.Given as goal

abbrev pub invariant-loop-slot : goal.invariant-loop-slot
invariant-loop-slot l = (lower : ℕ) → lower < l.slot → is_free_slot l.self lower ≡ false
