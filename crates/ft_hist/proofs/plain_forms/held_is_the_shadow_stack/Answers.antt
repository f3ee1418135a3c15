use Rattle.ft_hist.proofs.Shadow.{held-shown}
use Rattle.ft_hist.proofs.plain_forms.held_is_the_shadow_stack.Goals as goal

pub returns : goal.returns
returns c = λ job items call legal. held-shown job items call legal
