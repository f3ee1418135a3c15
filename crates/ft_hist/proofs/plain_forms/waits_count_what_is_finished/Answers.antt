use Rattle.ft_hist.proofs.Finishing.{waits-met, waits-back}
use Rattle.ft_hist.proofs.plain_forms.waits_count_what_is_finished.Goals as goal

pub returns : goal.returns
returns c = λ job items legal. (λ h. waits-met job items legal h, λ h. waits-back job items legal h)
