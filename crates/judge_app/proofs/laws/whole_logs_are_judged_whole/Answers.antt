use Rattle.judge_app.proofs.Printed.{printed-whole}
use Rattle.judge_app.proofs.laws.whole_logs_are_judged_whole.Goals as goal

pub returns : goal.returns
returns c = λ input led items ended status text log size merge whole reply. printed-whole input size status text reply led items ended log merge whole
