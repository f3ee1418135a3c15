use Rattle.word_map.specs.declared.op.Op.TheVariants.{Load, Store, Mark}
use Rattle.live_table.specs.Rule.{LiveRule}
use Rattle.live_table.proofs.Plays.{load-asks, load-tells, mark-asks, store-asks, word-within}
use Rattle.live_table.proofs.table.make.Goals as goal

pub load-requires : goal.load-requires
load-requires c = (
  c.requires.table,
  word-within _ _ (Load c.in-Load.word) c.requires.word c.in-Load.is,
  load-asks _ c.args.op (LiveRule c.args.shared.now.key.job.value) _ _ c.requires.allows c.in-Load.word c.in-Load.is,
)

pub store-requires : goal.store-requires
store-requires c = (
  c.requires.table,
  word-within _ _ (Store c.in-Store.word c.in-Store.value) c.requires.word c.in-Store.is,
  store-asks _ c.args.op (LiveRule c.args.shared.now.key.job.value) _ _ c.requires.allows c.in-Store.word c.in-Store.value c.in-Store.is,
)

pub fetch_add-requires : goal.fetch_add-requires
fetch_add-requires c = rw c.mark_weight.ensures (
  c.requires.table,
  word-within _ _ (Mark c.in-Mark.command) c.requires.word c.in-Mark.is,
  mark-asks _ c.args.op (LiveRule c.args.shared.now.key.job.value) _ _ c.requires.allows c.in-Mark.command c.in-Mark.is,
)

pub returns-in-Load-clause-took : goal.returns-in-Load-clause-took
returns-in-Load-clause-took c = load-tells _ c.args.op c.in-Load.word _ _ c.in-Load.is c.load.ensures.2
