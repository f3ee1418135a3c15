use Rattle.std.proofs.Common.{◌∙◌}
use Rattle.ft_script.proofs.CommandCounts.{kept-counted}
use Rattle.ft_script.proofs.reader.Reader.command_count.Goals as goal

pub returns-in-Some : goal.returns-in-Some
returns-in-Some c = c.commands.ensures ∙ kept-counted c.args.self.now c.requires.kept c.in-Some.expansion c.in-Some.is
