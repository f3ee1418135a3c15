use Rattle.std.proofs.Common.{ap}
use Rattle.pid_filter.proofs.MaskLemmas.{length-tasks_in, tasks_in-zero}
use Rattle.pid_filter.proofs.pids.Pids.new.Goals as goal

pub returns-clause-lists : goal.returns-clause-lists
returns-clause-lists c = ap (λ s. record { pids = s; nopids = s }) (tasks_in-zero c.args.tasks)

pub returns-clause-size : goal.returns-clause-size
returns-clause-size c = length-tasks_in c.args.tasks 0
