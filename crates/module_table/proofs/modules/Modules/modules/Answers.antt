use Rattle.std.proofs.Common.{arith}
use Rattle.module_table.proofs.modules.Modules.modules.Goals as goal

pub overflow_cast-result : goal.overflow_cast-result
overflow_cast-result c = let h = c.self.invariant.modules in omega arith
