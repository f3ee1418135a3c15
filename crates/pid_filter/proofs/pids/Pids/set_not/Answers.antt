use Rattle.std.proofs.Common.{◌∙◌, sym, ap, length}
use Rattle.pid_filter.proofs.MaskLemmas.{length-tasks_in}
use Rattle.pid_filter.specs.Lists.{PidLists, tasks_in}
use Rattle.pid_filter.proofs.pids.Pids.set_not.Goals as goal

pub returns-clause-nopids : goal.returns-clause-nopids
returns-clause-nopids c =
    ap (λ n. tasks_in n c.args.not) (sym (length-tasks_in _ c.self.inside.not) ∙ ap (λ (lists : PidLists). length lists.nopids) c.self.view_is)
