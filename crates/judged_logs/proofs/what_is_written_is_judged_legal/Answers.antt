use Rattle.judged_logs.proofs.Written.{legal, whole}
use Rattle.judged_logs.proofs.what_is_written_is_judged_legal.Goals as goal

pub returns-clause-legal : goal.returns-clause-legal
returns-clause-legal c = λ order remaining remaining' written run status text logged size reply.
    legal remaining remaining' written order run status text logged size reply

pub returns-clause-whole : goal.returns-clause-whole
returns-clause-whole c = λ remaining remaining' written run status text size reply. (whole remaining remaining' written run status text size reply).1
