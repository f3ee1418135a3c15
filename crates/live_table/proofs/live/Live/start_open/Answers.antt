use Rattle.std.proofs.Common.{◌≡◌, None}
use Rattle.std.proofs.lemmas.Result.{IfOk-weaker}
use Rattle.word_machine.specs.Control.{control_next}
use Rattle.live_table.specs.Seats.{control_at}
use Rattle.live_table.proofs.AtStart.{withheld-ends}
use Rattle.live_table.proofs.live.Live.start_open.Goals as goal

pub returns-clause-ended : goal.returns-clause-ended
returns-clause-ended c =
    IfOk-weaker c.start_with.result _ (λ s. control_next s.control.led (control_at s.control) ≡ None) (λ s h. withheld-ends _ _ _ h) c.start_with.ensures.control
