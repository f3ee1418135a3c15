use Rattle.std.proofs.Common.{◌≡◌, ◌+◌, length, map, drop}
use Rattle.std.specs.List.{AllByRecursion as Each}
use Rattle.ft_desk.specs.Declarations.{job_of}
use Rattle.ft_desk.specs.Commands.{command_of, IsInShape}
use Rattle.module_table.specs.Lines.{desk_after}
use Rattle.module_table.proofs.commands.plan_all.Given as goal

-- the commands that are left lead to the same desk
abbrev pub invariant-loop-command : goal.invariant-loop-command
invariant-loop-command l = record {
  declared : l.desk.declared ≡ l.fn.desk.declared;
  state : desk_after (job_of l.fn.desk.declared) l.desk.state l.desk.commands (map (command_of l.fn.desk.declared.tasks) (drop l.command-index l.commands))
      ≡ desk_after (job_of l.fn.desk.declared) l.fn.desk.state l.fn.desk.commands (map (command_of l.fn.desk.declared.tasks) l.commands);
  count : l.desk.commands + length (drop l.command-index l.commands) ≡ l.fn.desk.commands + length l.commands;
  rest : Each (IsInShape l.fn.desk.declared) (drop l.command-index l.commands);
}
