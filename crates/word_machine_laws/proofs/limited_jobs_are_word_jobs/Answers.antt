use Rattle.word_machine_laws.proofs.limited_jobs_are_word_jobs.Goals as goal
use Rattle.word_machine_laws.proofs.Limited.{limited}

pub returns : goal.returns
returns c = λ job l. limited job l
