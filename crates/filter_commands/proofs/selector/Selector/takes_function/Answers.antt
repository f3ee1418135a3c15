use Rattle.std.proofs.Common.{sym, ◌∙◌}
use Rattle.std.specs.Option.{option_copied}
use Rattle.filter_commands.specs.Meanings.{takes}
use Rattle.filter_commands.proofs.SetLemmas.{holds-map}
use Rattle.filter_commands.proofs.selector.Selector.takes_function.Goals as goal

pub returns : goal.returns
returns c = c.takes.ensures ∙ sym (holds-map (takes c.args.self.now) c.args.table.now.functions c.args.f.0 c.name.result.now (option_copied c.module.result) c.name.ensures.value c.module.ensures)
