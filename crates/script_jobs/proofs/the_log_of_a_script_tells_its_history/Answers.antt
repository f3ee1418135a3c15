use Rattle.script_jobs.proofs.the_log_of_a_script_tells_its_history.Goals as goal
use Rattle.script_jobs.proofs.Logs.{log_tells}

pub returns : goal.returns
returns c = λ text job a b x y is la lb e. log_tells text job a b x y is la lb e
