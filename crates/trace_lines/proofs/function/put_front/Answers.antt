use Rattle.std.proofs.Common.{ℕ, ap, ◌∙◌}
use Rattle.std.specs.Fmt.{decimal}
use Rattle.ft_io.proofs.PieceLaws.{puts-then, puts-equal}
use Rattle.trace_views.specs.Words.{right_in, zeros_in}
use Rattle.trace_lines.proofs.function.put_front.Goals as goal

pub returns : goal.returns
returns g c =
    puts-then (puts-equal (ap (λ (n : ℕ). right_in 7 (decimal n)) c.task-pid.ensures.pid) c.put_right.ensures)
    (puts-then c.put.ensures
    (puts-then (puts-equal (ap (λ (n : ℕ). zeros_in 3 (decimal n)) c.task-pid.ensures.cpu) c.put_three_digits.ensures)
    (puts-then c.put-2.ensures
    (puts-then (puts-equal (c.as_bytes.ensures.value ∙ c.context_letter.ensures) c.put-3.ensures)
    (puts-then c.put-4.ensures (puts-then c.put_right-2.ensures c.put-5.ensures))))))
