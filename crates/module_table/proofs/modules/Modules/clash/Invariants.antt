use Rattle.std.proofs.Common.{◌≡◌, ℕ, ◌<◌, false, is_some}
use Rattle.module_table.specs.Lines.{holder_of}
use Rattle.module_table.proofs.modules.Modules.clash.Given as goal

-- no two users replace a function before this one
abbrev pub invariant-loop-f : goal.invariant-loop-f
invariant-loop-f l = (k : ℕ) → k < l.f → is_some (holder_of l.self l.hidden k) ≡ false
