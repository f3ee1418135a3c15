use Rattle.std.proofs.Common.{ℕ, ◌++◌, ap, codes}
use Rattle.ft_io.proofs.PieceLaws.{puts-equal}
use Rattle.std.specs.Fmt.{decimal}
use Rattle.trace_lines.proofs.log.put_known.Goals as goal

pub returns : goal.returns
returns g c = puts-equal (ap (λ (pid : ℕ). decimal pid ++ (codes "." ++ decimal c.args.call.n)) c.task.ensures.pid) c.put.ensures
