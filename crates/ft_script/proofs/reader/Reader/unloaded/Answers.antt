use Rattle.std.proofs.Common.{sym, ap, ◌∙◌, true≢false}
use Rattle.std.specs.Prelude.{is_some}
use Rattle.ft_script.specs.ReaderInvariant.{above_of}
use Rattle.ft_script.proofs.Coverage.{none-unloaded}
use Rattle.ft_script.proofs.reader.Reader.unloaded.Goals as goal

pub returns-in-None : goal.returns-in-None
returns-in-None c =
    none-unloaded (above_of c.args.self.now) c.requires.holds (λ none. true≢false (sym (c.requires.open.some none) ∙ ap (λ x. is_some x) c.in-None.is))
