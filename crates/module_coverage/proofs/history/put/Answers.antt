use Rattle.module_coverage.proofs.Away.{put-more}
use Rattle.std.proofs.Common.{arith}
use Rattle.module_coverage.proofs.history.put.Goals as goal

pub returns-in_ok-push : goal.returns-in_ok-push
returns-in_ok-push c =
    put-more c.args.histories.now.items c.args.change.module c.index_mut.result.now c.push.new.self c.args.change (omega (arith, c.args.histories.now.ok.0, c.if-owner-len.true, c.len.ensures)) c.index_mut.ensures.value c.in_ok-push.ensures.items
