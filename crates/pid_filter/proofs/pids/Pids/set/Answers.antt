use Rattle.std.proofs.Common.{◌∙◌, sym, ap, length}
use Rattle.pid_filter.proofs.MaskLemmas.{length-tasks_in}
use Rattle.pid_filter.specs.Lists.{PidLists, tasks_in}
use Rattle.pid_filter.proofs.pids.Pids.set.Goals as goal

pub returns-clause-pids : goal.returns-clause-pids
returns-clause-pids c =
    ap (λ n. tasks_in n c.args.only) (sym (length-tasks_in _ c.self.inside.only) ∙ ap (λ (lists : PidLists). length lists.pids) c.self.view_is)
