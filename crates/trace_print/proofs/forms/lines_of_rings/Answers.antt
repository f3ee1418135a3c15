use Rattle.std.proofs.Common.{◌≡◌, length, List, ℕ, ◌++◌, ap, arith}
use Rattle.ft_base.specs.Job.{Job}
use Rattle.trace_rings.proofs.Plans.{cpu-count}
use Rattle.trace_views.specs.RingsText.{rings_text}
use Rattle.trace_views.specs.Words.{last_line}
use Rattle.user_specs.specs.Plain.{cpu_of}
use Rattle.trace_print.proofs.forms.lines_of_rings.Goals as goal

-- there are no more CPUs than a job may have
pub rings_lines-requires-clause-few : goal.rings_lines-requires-clause-few
rings_lines-requires-clause-few c =
    let count = cpu-count cpu_of c.cpus-cpus.result.now c.job.result.now.quanta c.cpus-cpus.ensures.quanta in
    let same : length c.job.result.now.quanta ≡ length c.args.names.now.quanta = ap (λ (job : Job). length job.quanta) c.job.ensures in
    let few = c.cpus-cpus.ensures.few in
    let cpus = c.requires.cpus in
    omega (arith, count, same, few, cpus)

pub returns : goal.returns
unfolding rings_text
returns c = λ ended. ap (λ (t : List ℕ). t ++ last_line ended) c.in_ok-rings_lines.ensures
