use Rattle.std.proofs.Common.{◌≡◌, ◌≤◌, ◌+◌, ◌++◌, length, drop, vec_len, vec_capacity}
use Rattle.module_table.specs.Made.{mask_commands}
use Rattle.module_table.proofs.masks.masks.Given as goal

-- the masks so far, and those that are left; there is room for all
abbrev pub invariant-loop-u : goal.invariant-loop-u
invariant-loop-u l = record {
  made : l.commands.items ++ mask_commands l.u (drop l.u l.own) l.hidden ≡ mask_commands 0 l.own l.hidden;
  room : vec_len l.commands + length (drop l.u l.own) ≤ vec_capacity l.commands;
}
