use Rattle.std.proofs.Common.{ℕ, true, Some, sym, subst}
use Rattle.atomic_table.specs.Table.{Allows}
use Rattle.word_map.specs.declared.op.Op.TheVariants.{Mark}
use Rattle.live_table.specs.AtomicSteps.{MakesOp}
use Rattle.live_table.specs.Operations.{op_after}
use Rattle.live_table.specs.Rule.{LiveRule}
use Rattle.live_table.proofs.table.make_begin_as.Goals as goal

pub fetch_add-requires : goal.fetch_add-requires
fetch_add-requires g c = rw c.mark_weight.ensures (
  c.requires.table,
  c.requires.word,
  subst (λ (k : ℕ). Allows (LiveRule c.args.shared.now.key.job.value) c.args.shared.now.table_id.slots c.args.seat.now.id c.args.seat.now.me 0 (op_after (Mark true))
      (λ n m. MakesOp (Some k) (Mark true) n c.args.seat.now.me m)) c.requires.line c.requires.allows,
)

pub returns-clause-took : goal.returns-clause-took
returns-clause-took g c =
    let told = c.fetch_add.ensures.2 in
    subst (λ (k : ℕ). MakesOp (Some k) (Mark true) c.fetch_add.result c.args.seat.now.me c.fetch_add.new.seat.me) (sym c.requires.line)
    (rw c.mark_weight.ensures at told)
