use Rattle.std.proofs.Common.{◌≡◌, ℕ, ◌≤◌, ◌<◌, false}
use Rattle.module_table.specs.Lines.{replaces}
use Rattle.module_table.proofs.modules.Modules.next_holder.Given as goal

-- no user before this one replaces the function
abbrev pub invariant-loop-u : goal.invariant-loop-u
invariant-loop-u l = record {
  low : l.from ≤ l.u;
  none : (k : ℕ) → l.from ≤ k → k < l.u → replaces l.self l.hidden l.f k ≡ false;
}
