use Rattle.std.proofs.Common.{ℕ, ◌++◌, ap, codes}
use Rattle.std.specs.Fmt.{decimal}
use Rattle.ft_io.proofs.PieceLaws.{puts-none, puts-then, puts-equal}
use Rattle.told_facts.proofs.commands.put_wait.Goals as goal

pub returns : goal.returns
returns g c =
    puts-then (puts-equal (ap (λ (n : ℕ). codes "{\"fact\": \"wait\", \"pid\": " ++ decimal n) c.task-pid.ensures.pid) c.put_named.ensures)
    (puts-then c.put_named-2.ensures c.put.ensures)
