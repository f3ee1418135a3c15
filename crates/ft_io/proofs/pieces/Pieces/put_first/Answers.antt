use Rattle.std.proofs.Common.{refl, take, ◌∙◌}
use Rattle.std.proofs.Math.Seq.{take-append-add}
use Rattle.ft_io.proofs.PieceLaws.{puts-held}
use Rattle.ft_io.proofs.pieces.Pieces.put_first.Goals as goal

pub returns-else-held-lt16 : goal.returns-else-held-lt16
returns-else-held-lt16 g c = rw (← c.self.view_is) (puts-held (take c.args.len c.args.bytes.now) c.args.sink.now _ _ refl
    (c.truncate.ensures.items ∙ rw (c.extend_reserved.ensures.items, c.len-held.ensures.value) (take-append-add c.self.inside.held.items c.args.bytes.now c.args.len)))
