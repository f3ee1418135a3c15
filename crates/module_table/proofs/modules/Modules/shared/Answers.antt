use Rattle.std.proofs.Common.{sym, ◌∙◌}
use Rattle.module_table.proofs.ClashLaws.{holder-found, holder-alone}
use Rattle.module_table.proofs.modules.Modules.shared.Goals as goal

pub returns-in-None : goal.returns-in-None
returns-in-None c = holder-alone c.args.self.now c.args.hidden.now c.args.f c.args.first c.requires.first (sym c.in-None.is ∙ c.next_holder.ensures.value)

pub returns-in-Some : goal.returns-in-Some
returns-in-Some c = holder-found c.args.self.now c.args.hidden.now c.args.f c.args.first c.in-Some.field-0 c.requires.first (sym c.in-Some.is ∙ c.next_holder.ensures.value)
