-- The map after an insert has the function at the key of the call, and at each other key what it had.
use Rattle.func_profile.proofs.tally.Tally.enter.Goals as goal

pub returns-in-Ok-clause-functions : goal.returns-in-Ok-clause-functions
returns-in-Ok-clause-functions c = λ q. c.in-Ok.ensures.updates.0 (q.task.0, q.n)
