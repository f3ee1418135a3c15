use Rattle.std.proofs.Common.{◌≡◌, length}
use Rattle.std.specs.List.{AllByRecursion as Each}
use Rattle.std.specs.Vec.Iter.{into_iter_items}
use Rattle.ft_desk.specs.Commands.{IsInShape}
use Rattle.module_table.specs.Lines.{after_lines}
use Rattle.ft_script.specs.Late.{lines_with, HasRoom}
use Rattle.ft_script.proofs.late.plan_all.Given as goal

-- the commands that are left lead to the same
abbrev pub invariant-loop-command : goal.invariant-loop-command
invariant-loop-command l = record {
  declared : l.modules.declared ≡ l.fn.modules.declared;
  same : after_lines l.modules (lines_with l.fn.modules.declared.tasks (into_iter_items l.command-iterator))
      ≡ after_lines l.fn.modules (lines_with l.fn.modules.declared.tasks l.fn.commands.items);
  numbers : Each (IsInShape l.fn.modules.declared) (into_iter_items l.command-iterator);
  room : HasRoom l.modules (length (into_iter_items l.command-iterator));
}
