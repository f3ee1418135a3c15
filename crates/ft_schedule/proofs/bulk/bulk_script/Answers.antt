use Rattle.std.proofs.Common.{◌≡◌, rules}
use Rattle.ft_schedule.specs.Bulk.{bulk_text}
use Rattle.ft_schedule.proofs.BulkLength.{bulk-short}
use Rattle.ft_schedule.proofs.bulk.bulk_script.Goals as goal

pub returns-clause-short : goal.returns-clause-short
returns-clause-short c =
    let whole : c.into_bytes.result.items ≡ bulk_text c.args.n = search rules in
    rw whole (bulk-short c.args.n)
