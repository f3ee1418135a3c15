use Rattle.std.proofs.Common.{codes, ap, sym, ◌∙◌}
use Rattle.std.proofs.lemmas.Slice.Eq.{bytes_eq-Decides}
use Rattle.script_text.specs.Lines.{words_of}
use Rattle.script_form.specs.Lines.{form_of}
use Rattle.script_form.proofs.line.read_text.Goals as goal

pub returns-then-eq : goal.returns-then-eq
unfolding words_of
returns-then-eq c = ap (λ t. form_of (words_of t)) (sym ((bytes_eq-Decides c.args.text.now (codes "ret")).0 (sym c.eq.ensures ∙ c.if-eq.true)))
