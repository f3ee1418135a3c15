use Rattle.std.proofs.Common.{refl}
use Rattle.ft_io.specs.declared.status.Status.TheVariants.{Done}
use Rattle.judge_app.proofs.Printed.{legal-told}
use Rattle.judge_app.proofs.laws.what_has_status_0_is_legal.Goals as goal

pub returns : goal.returns
returns c = λ input text reply. let t = legal-told input Done text reply refl in (t.0, t.1, t.2, t.3, t.4, t.5.0, t.5.1)
