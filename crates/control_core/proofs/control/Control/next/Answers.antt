use Rattle.std.proofs.Common.{ap, ◌∙◌}
use Rattle.std.specs.Prelude.{option_map}
use Rattle.word_map.specs.Ops.{placed}
use Rattle.control_core.proofs.NextLaw.{next-law}
use Rattle.control_core.proofs.control.Control.next.Goals as goal

pub returns : goal.returns
returns c = λ job is. c.op.ensures ∙ ap (option_map (placed c.args.self.now.shape)) (next-law job c.args.self.now c.keeps.ensures is)
