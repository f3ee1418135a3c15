use Rattle.std.proofs.Common.{sym, ap, ◌∙◌, subst}
use Rattle.ft_base.specs.Job.{Job}
use Rattle.ft_script.specs.Hidden.{HidesModules}
use Rattle.ft_script.specs.Holds.{CanRun}
use Rattle.ft_script.specs.Script.{declared_in, job_of}
use Rattle.ft_script.proofs.HiddenModules.{hides}
use Rattle.ft_script.proofs.script.read_script.Goals as goal

pub returns-clause-job : goal.returns-clause-job
returns-clause-job c =
    let read = c.in_ok-cpus.ensures in
    record { accepted = read.accepted; ends = read.ends; loaded = read.loaded; meaning = c.in_ok-make_job.ensures ∙ ap job_of read.declared }

pub returns-clause-hides : goal.returns-clause-hides
returns-clause-hides c = λ single n.
    let read = c.in_ok-cpus.ensures in
    subst (λ (j : Job). HidesModules (declared_in c.args.text.now) j n) (sym (c.in_ok-make_job.ensures ∙ ap job_of read.declared))
    (hides (declared_in c.args.text.now) (subst CanRun read.declared read.runs) single n)
