use Rattle.std.proofs.Common.{ap, ◌∙◌}
use Rattle.ft_base.specs.Job.{MaxDepth as PlainMaxDepth}
use Rattle.ft_desk.specs.declared.command.Command.TheVariants.{MaxDepth}
use Rattle.module_table.specs.Lines.{Between}
use Rattle.module_table.proofs.MadeLaws.{appends-one}
use Rattle.module_table.proofs.modules.Modules.keep_back.Goals as goal

pub returns-clause-added : goal.returns-clause-added
returns-clause-added c = appends-one c.args.self.now.declared c.args.out.now.items _ (MaxDepth c.self.inside.depth) (PlainMaxDepth c.args.self.now.desk.depth)
    c.in_ok-run_one.ensures.added (ap PlainMaxDepth (c.self.invariant.depth ∙ ap (λ (b : Between). b.desk.depth) c.self.view_is)) (tt, tt)
