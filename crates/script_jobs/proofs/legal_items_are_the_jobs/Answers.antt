use Rattle.script_jobs.proofs.legal_items_are_the_jobs.Goals as goal
use Rattle.word_machine_laws.specs.Led.{in_order}
use Rattle.script_jobs.proofs.Logs.{each-of, items_are_numbered, few_items}
use Rattle.script_jobs.proofs.OrderedLogs.{are-numbered, few}

pub returns-clause-items : goal.returns-clause-items
returns-clause-items c = λ text job items is l. each-of job items (items_are_numbered text job items is l)

pub returns-clause-count : goal.returns-clause-count
returns-clause-count c = λ text job items is l. few_items text job items is l

pub returns-clause-ordered : goal.returns-clause-ordered
returns-clause-ordered c = λ text job order items is has lanes l.
    (each-of (in_order job order) items (are-numbered text job is has order items lanes l), few text job is has order items lanes l)
