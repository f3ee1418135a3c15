use Rattle.std.proofs.Common.{[], refl, arith, ◌++◌, ◌∙◌, ap, sym}
use Rattle.ft_base.specs.Job.{Job}
use Rattle.ft_io.proofs.PieceLaws.{puts-none, puts-then, puts-equal}
use Rattle.told_facts.specs.Commands.{modules_after}
use Rattle.told_facts.proofs.Controls.{modules-all, modules-more}
use Rattle.told_facts.proofs.commands.put_hidden.Goals as goal

pub loop-module-init : goal.loop-module-init
loop-module-init g c = ([], puts-none _ _, refl)

pub loop-module-preserved : goal.loop-module-preserved
loop-module-preserved g c =
    let so_far = c.loop-module.invariant in (
      _,
      puts-then so_far.1 (puts-then c.put.ensures (puts-equal (c.as_bytes.ensures.value ∙ c.module.ensures) c.put-in-loop-module.ensures)),
      modules-more c.args.names.now c.absent-absent.result.now c.loop-module.module-index so_far.0 _ c.loop-module-test.true so_far.2,
    )

pub returns : goal.returns
returns g c =
    let so_far = c.loop-module.invariant in
    puts-equal (ap (modules_after c.args.names.now) (c.absent-absent.ensures ∙ ap (λ (j : Job). j.lines.absent) c.job.ensures)) (puts-equal (modules-all c.args.names.now c.absent-absent.result.now c.loop-module.module-index so_far.0 _ (omega arith) so_far.2) so_far.1)
