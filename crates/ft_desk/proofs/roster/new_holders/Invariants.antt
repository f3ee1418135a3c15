use Rattle.std.proofs.Common.{◌≡◌, ℕ, ◌<◌, length, get_or}
use Rattle.ft_base.specs.Marks.{empty}
use Rattle.ft_desk.specs.RosterInvariant.{no_holder}
use Rattle.ft_desk.proofs.roster.new_holders.Given as goal

abbrev pub invariant-loop-n : goal.invariant-loop-n
invariant-loop-n l = record {
  size : length l.holders.items ≡ l.n;
  each : (u : ℕ) → u < l.n → get_or l.holders.items u no_holder ≡ record { user = record { 0 = u }; on = empty l.funcs };
}
