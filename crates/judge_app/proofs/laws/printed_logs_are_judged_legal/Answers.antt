use Rattle.judge_app.proofs.Printed.{printed-legal}
use Rattle.judge_app.proofs.laws.printed_logs_are_judged_legal.Goals as goal

pub returns : goal.returns
returns c = λ input job items ended status text log size same legal whole reply. printed-legal input size status text reply job items ended log same legal whole
