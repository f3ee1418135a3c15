use Rattle.std.proofs.Common.{◌≡◌, map, take, string_bytes}
use Rattle.func_table.specs.Modules.{modules_in}
use Rattle.module_table.proofs.names.ModuleNames.new.Given as goal

-- the modules of the functions so far
abbrev pub invariant-loop-f : goal.invariant-loop-f
invariant-loop-f l = map string_bytes l.names.keys ≡ modules_in (take l.f l.table.functions)
