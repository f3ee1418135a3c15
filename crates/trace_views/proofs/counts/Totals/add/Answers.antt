use Rattle.std.proofs.Common.{arith, ◌∷◌, [], length-append}
use Rattle.trace_views.proofs.CountLaws.{counted-next, counts-room}
use Rattle.trace_views.proofs.counts.Totals.add.Goals as goal

pub with_kind-self-requires : goal.with_kind-self-requires
with_kind-self-requires c = counts-room c.requires.0 c.args.self.now.counts c.requires.2 c.requires.1.counted

pub returns : goal.returns
returns c = λ items are. record {
  many = (let many = are.many in let e = length-append items (c.args.item.now ∷ []) in omega (arith, many, e));
  counted = rw (c.with_kind-self.ensures, c.kind.ensures) (counted-next items c.args.item.now c.args.self.now.counts are.counted);
}
