use Rattle.std.proofs.Common.{sym, ap, ◌∙◌}
use Rattle.ft_script.specs.Causes.{is_last}
use Rattle.ft_script.proofs.Ends.{no_lines}
use Rattle.ft_script.proofs.last_act.is_last.Goals as goal

pub returns : goal.returns
returns c = ap is_last (sym (no_lines c.loop-rest.rest.now c.loop-rest-test.ensures)) ∙ c.loop-rest.invariant
