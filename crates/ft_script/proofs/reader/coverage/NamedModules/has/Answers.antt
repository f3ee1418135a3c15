use Rattle.std.proofs.Common.{sym, ◌∙◌}
use Rattle.ft_script.proofs.Coverage.{changing-is}
use Rattle.ft_script.proofs.reader.coverage.NamedModules.has.Goals as goal

pub returns-else-is_among : goal.returns-else-is_among
returns-else-is_among c = λ job are. c.are_of.ensures ∙ changing-is c.args.self.now job are c.args.number (sym c.is_among.ensures ∙ c.if-is_among.false)
