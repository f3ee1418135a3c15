use Rattle.script_jobs.proofs.the_log_of_lanes_tells_their_order.Goals as goal
use Rattle.script_jobs.proofs.OrderedLogs.{log-tells-order}

pub returns : goal.returns
returns c = λ text job order other a b x y is has. log-tells-order text job is has order other a b x y
