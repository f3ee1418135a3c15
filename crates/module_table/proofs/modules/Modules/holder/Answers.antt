use Rattle.std.proofs.Common.{sym, ◌∙◌}
use Rattle.module_table.proofs.ClashLaws.{holder-none}
use Rattle.module_table.proofs.modules.Modules.holder.Goals as goal

pub returns-in-None : goal.returns-in-None
returns-in-None c = holder-none c.args.self.now c.args.hidden.now c.args.f (sym c.in-None.is ∙ c.next_holder.ensures.value)
