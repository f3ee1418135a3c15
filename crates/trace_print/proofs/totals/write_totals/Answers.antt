use Rattle.trace_print.proofs.SummaryLines.{summary-is}
use Rattle.trace_print.proofs.totals.write_totals.Goals as goal

pub returns : goal.returns
returns c = λ items are.
    (let many = rw are.many at c.in_ok-push_number-2.ensures in
    let all = rw c.last_line.ensures at c.in_ok-push_str.ensures.bytes in
    summary-is c.args.n items c.args.ended c.args.totals.counts are.counted _ _ _ _ _ _ _ _ _
    c.requires c.in_ok-push_number.ensures many c.in_ok-push_number-3.ensures c.in_ok-push_number-4.ensures c.in_ok-push_number-5.ensures
    c.in_ok-push_number-6.ensures c.in_ok-push_number-7.ensures all)
