use Rattle.std.proofs.Common.{ℕ, ◌++◌, ap, codes}
use Rattle.std.specs.Fmt.{decimal}
use Rattle.ft_io.proofs.PieceLaws.{puts-none, puts-then, puts-equal}
use Rattle.told_items.proofs.fields.put_called.Goals as goal

pub returns : goal.returns
returns g c =
    puts-then (puts-equal (ap (λ (n : ℕ). codes ", \"pid\": " ++ decimal n) c.task-task.ensures.pid) c.put_named.ensures)
    (puts-then (puts-equal (ap (λ (n : ℕ). codes ", \"cpu\": " ++ decimal n) c.task-task.ensures.cpu) c.put_named-2.ensures)
    (puts-then (puts-then c.put.ensures (puts-then c.put_call.ensures c.put-2.ensures)) (puts-none _ _)))
