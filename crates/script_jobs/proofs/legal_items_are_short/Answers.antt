use Rattle.word_machine_laws.specs.Led.{in_order}
use Rattle.script_jobs.proofs.Logs.{each-short, items_are_numbered}
use Rattle.script_jobs.proofs.OrderedLogs.{are-numbered}
use Rattle.script_jobs.proofs.legal_items_are_short.Goals as goal

pub returns-clause-items : goal.returns-clause-items
returns-clause-items c = λ text job items is l. each-short job items (items_are_numbered text job items is l)

pub returns-clause-ordered : goal.returns-clause-ordered
returns-clause-ordered c = λ text job order items is has lanes l. each-short (in_order job order) items (are-numbered text job is has order items lanes l)
