use Rattle.script_jobs.proofs.Sites.{accepted-nop}
use Rattle.script_jobs.proofs.unloaded_modules_have_no_patched_sites.Goals as goal

pub returns : goal.returns
returns c = accepted-nop
