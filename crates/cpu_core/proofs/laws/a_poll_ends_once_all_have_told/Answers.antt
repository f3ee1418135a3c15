use Rattle.ft_base.specs.Tasks.{tasks_of}
use Rattle.cpu_core.proofs.WholePoll.{asks, each-told, over, stores}
use Rattle.cpu_core.proofs.laws.a_poll_ends_once_all_have_told.Goals as goal

pub returns-clause-asks : goal.returns-clause-asks
returns-clause-asks c = asks

pub returns-clause-stores : goal.returns-clause-stores
returns-clause-stores c = stores

pub returns-clause-over : goal.returns-clause-over
returns-clause-over c = over

pub returns-clause-told : goal.returns-clause-told
returns-clause-told c = λ job me r. each-told r (tasks_of job me.number) me.tasks
