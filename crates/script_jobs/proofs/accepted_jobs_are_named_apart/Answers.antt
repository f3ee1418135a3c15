use Rattle.script_jobs.proofs.accepted_jobs_are_named_apart.Goals as goal
use Rattle.script_jobs.proofs.Names.{accepted_named}
use Rattle.script_jobs.proofs.OrderedLogs.{named}

pub returns-clause-named : goal.returns-clause-named
returns-clause-named c = λ text job is. accepted_named text job is

pub returns-clause-ordered : goal.returns-clause-ordered
returns-clause-ordered c = λ text job order is has. named text job is has order
