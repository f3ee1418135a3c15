use Rattle.std.proofs.Common.{[], sym, ap, ◌∙◌, append-nil}
use Rattle.ft_io.specs.declared.pieces.Pieces.TheInside.{Inside}
use Rattle.ft_io.proofs.PieceLaws.{puts-written, puts-dropped}
use Rattle.ft_io.proofs.pieces.Pieces.flush.Goals as goal
use Rattle.ft_io.proofs.pieces.Pieces.flush.Goals.{then-not-self, else-not-self}

pub returns-clause-puts : goal.returns-clause-puts
returns-clause-puts g c = rw (← c.self.view_is) (elim c.if-not-self.branch [
  | then-not-self w ↦ rw w.sink-is (puts-written w.write_all.result [] w.as_slice.result.now c.args.sink.now w.write_all.new.sink _ _ w.if-not-self.true
      (ap (λ (i : Inside). i.failed) w.self-inside-is ∙ w.is_err-self-inside.ensures.value) c.clear.ensures.items
      (append-nil c.self.inside.held.items ∙ sym w.as_slice.ensures)
      w.write_all.ensures.all w.write_all.ensures.front w.write_all.ensures.fault w.write_all.ensures.faults)
  | else-not-self w ↦ rw w.sink-is (puts-dropped [] c.args.sink.now _ _ w.if-not-self.false (ap (λ (i : Inside). i.failed) w.self-inside-is ∙ w.if-not-self.false))
])
