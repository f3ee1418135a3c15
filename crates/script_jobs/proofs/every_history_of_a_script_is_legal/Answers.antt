use Rattle.script_jobs.proofs.every_history_of_a_script_is_legal.Goals as goal
use Rattle.script_jobs.proofs.Texts.{accepted_limited}
use Rattle.word_machine_laws.proofs.Limited.{limited}
use Rattle.word_machine_laws.proofs.Ends.{every_run_is_legal, every_ended_run_is_whole}

pub returns-clause-legal : goal.returns-clause-legal
returns-clause-legal c = λ text job actors is. every_run_is_legal job (limited job (accepted_limited text job is)) actors

pub returns-clause-whole : goal.returns-clause-whole
returns-clause-whole c = λ text job actors is end. every_ended_run_is_whole job (limited job (accepted_limited text job is)) actors end
