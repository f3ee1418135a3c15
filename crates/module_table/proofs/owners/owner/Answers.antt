use Rattle.std.proofs.Common.{Some, None, ap, sym, ◌∙◌}
use Rattle.std.specs.Option.{option_copied}
use Rattle.module_table.proofs.NameLaws.{owner-at}
use Rattle.module_table.proofs.owners.owner.Goals as goal

pub returns-in-Some : goal.returns-in-Some
returns-in-Some c = c.find.ensures ∙ sym (owner-at c.args.names.now c.args.table.now.functions c.args.f.0 (Some c.in-Some.name.now) (c.module.ensures ∙ ap (λ o. Some (option_copied o)) c.in-Some.is))

pub returns-in-None : goal.returns-in-None
returns-in-None c = sym (owner-at c.args.names.now c.args.table.now.functions c.args.f.0 None (c.module.ensures ∙ ap (λ o. Some (option_copied o)) c.in-None.is))
