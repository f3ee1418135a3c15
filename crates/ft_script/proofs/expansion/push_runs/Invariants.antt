use Rattle.std.proofs.Common.{◌≡◌, ◌++◌, map}
use Rattle.std.specs.Vec.Iter.{into_iter_items}
use Rattle.ft_desk.specs.declared.command.Ctl.TheVariants.{Run}
use Rattle.ft_script.proofs.expansion.push_runs.Given as goal

-- the commands so far are added, and the others are left
abbrev pub invariant-loop-command : goal.invariant-loop-command
invariant-loop-command l = record {
  have : l.ctls.items ≡ l.fn.ctls.items ++ map Run l.yielded;
  rest : l.yielded ++ into_iter_items l.command-iterator ≡ l.fn.commands.items;
}
