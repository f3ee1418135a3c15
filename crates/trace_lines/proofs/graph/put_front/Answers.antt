use Rattle.std.proofs.Common.{ap}
use Rattle.std.specs.Fmt.{decimal}
use Rattle.ft_io.proofs.PieceLaws.{puts-then, puts-equal}
use Rattle.trace_views.specs.Words.{right_in}
use Rattle.trace_lines.proofs.graph.put_front.Goals as goal

pub returns : goal.returns
returns g c =
    puts-then (puts-equal (ap (λ n. right_in 2 (decimal n)) c.task-pid.ensures.cpu) c.put_right.ensures)
    (puts-then c.put.ensures
    (puts-then (puts-equal (ap (λ n. right_in 7 (decimal n)) c.task-pid.ensures.pid) c.put_right-2.ensures)
    (puts-then c.put-2.ensures (puts-then c.put_time.ensures (puts-then c.put-3.ensures c.put_indent.ensures)))))
