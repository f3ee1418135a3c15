use Rattle.std.proofs.Common.{sym, ap, ◌∙◌}
use Rattle.ft_script.specs.Causes.{is_absent}
use Rattle.ft_script.specs.ReaderInvariant.{above_of}
use Rattle.ft_script.proofs.reader.Reader.is_absent.Goals as goal

pub returns-in-Some : goal.returns-in-Some
returns-in-Some c = c.has_absent.ensures ∙ ap (is_absent (above_of c.args.self.now)) (sym c.in-Some.is ∙ c.module_number.ensures)
