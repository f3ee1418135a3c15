use Rattle.std.proofs.Common.{codes, refl}
use Rattle.ft_io.specs.declared.status.Status.TheVariants.{Done}
use Rattle.judge_app.proofs.Printed.{whole-told}
use Rattle.judge_app.proofs.laws.what_is_called_whole_is_whole.Goals as goal

pub returns : goal.returns
returns c = λ input reply. whole-told input Done (codes "whole\n") reply refl refl
