use Rattle.std.proofs.Common.{◌≡◌, ◌≤◌, ◌<◌, true, length, sym, ap, arith}
use Rattle.std.proofs.lemmas.Grind.{common_steps}
use Rattle.std.proofs.lemmas.List.{length-take}
use Rattle.tramp_slots.specs.Holders.{is_free_slot}
use Rattle.tramp_slots.proofs.LowestLemmas.{lowest-first, lowest-none}
use Rattle.tramp_slots.proofs.slots.Slots.lowest_free.Goals as goal

pub returns-then-is_none-clause-slot : goal.returns-then-is_none-clause-slot
returns-then-is_none-clause-slot c =
    let free : is_free_slot c.args.self.now c.loop-slot.slot ≡ true = grind (arith, common_steps) in
    let within : c.loop-slot.slot < length c.args.self.now = grind (arith, common_steps) in
    sym (lowest-first _ _ _ _ (omega arith) (omega arith) (λ k low high. c.loop-slot.invariant k high) free)

pub returns-clause-slot : goal.returns-clause-slot
returns-clause-slot c =
    let all : length c.args.self.now ≤ c.loop-slot.slot = omega (arith, ap length c.self.view_is, length-take c.self.inside.size c.self.inside.holders) in
    sym (lowest-none _ _ _ (λ k low high. c.loop-slot.invariant k (omega arith)))
