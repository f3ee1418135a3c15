use Rattle.std.proofs.Common.{◌≡◌, ◌≤◌, length, map, take, is_some, vec_capacity}
use Rattle.module_table.proofs.masks.modifiers.Given as goal

abbrev pub invariant-loop-spec : goal.invariant-loop-spec
invariant-loop-spec l = (l.modifiers.items ≡ take l.spec-index (map (λ s. is_some s.ipmodify) l.specs)) × (length l.specs ≤ vec_capacity l.modifiers)
