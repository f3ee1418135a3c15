use Rattle.script_jobs.proofs.Modules.{calls-loaded, bodies-loaded}
use Rattle.script_jobs.proofs.calls_of_scripts_find_their_modules.Goals as goal

pub returns-clause-calls : goal.returns-clause-calls
returns-clause-calls c = calls-loaded

pub returns-clause-bodies : goal.returns-clause-bodies
returns-clause-bodies c = bodies-loaded
