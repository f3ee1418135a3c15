use Rattle.std.proofs.Common.{◌∙◌}
use Rattle.ft_io.proofs.PieceLaws.{puts-then, puts-equal}
use Rattle.told_facts.proofs.commands.put_target.Goals as goal

pub returns-in-Own : goal.returns-in-Own
returns-in-Own g c = rw c.in-Own.is (puts-then c.put-in-Own.ensures (puts-equal (c.as_bytes.ensures.value ∙ c.user.ensures) c.put-in-Own-2.ensures))
