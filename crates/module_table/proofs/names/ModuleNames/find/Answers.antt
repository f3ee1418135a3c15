use Rattle.std.proofs.Common.{sym, ap, position, ◌∙◌}
use Rattle.std.specs.Str.{bytes_eq}
use Rattle.module_table.proofs.NameLaws.{position-names}
use Rattle.module_table.proofs.names.ModuleNames.find.Goals as goal

pub returns-in-Some : goal.returns-in-Some
returns-in-Some c = sym c.in-Some.is ∙ c.get_index_of.ensures.index ∙ position-names c.args.name.now c.self.inside.names.keys ∙ ap (position (bytes_eq c.args.name.now)) c.self.view_is

pub returns-in-None : goal.returns-in-None
returns-in-None c = sym c.in-None.is ∙ c.get_index_of.ensures.index ∙ position-names c.args.name.now c.self.inside.names.keys ∙ ap (position (bytes_eq c.args.name.now)) c.self.view_is
