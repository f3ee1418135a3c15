use Rattle.std.proofs.Common.{List, ℕ, ◌∷◌, subst, sym}
use Rattle.ft_base.specs.Job.{Job}
use Rattle.ft_io.specs.Pieces.{IsUnderWay}
use Rattle.told_items.specs.Open.{IsTold}
use Rattle.fttell.proofs.Tellings.{lines-next}
use Rattle.fttell.proofs.telling.Telling.put.Goals as goal

pub returns : goal.returns
returns g c = λ job past first has. record {
  names = has.names;
  told = subst (λ (j : Job). IsTold j (c.args.item.now ∷ past) c.tell.new.self) has.names
      (c.tell.ensures.told past (subst (λ (j : Job). IsTold j past c.args.self.now.told) (sym has.names) has.told));
  lines = subst (λ (t : List ℕ). IsUnderWay g.K.Sink.holds g.K.Sink.faults t (g.K.Sink.holds first.sink) (g.K.Sink.faults first.sink) c.tell.new.sink c.tell.new.pieces) (lines-next job past c.args.item.now)
      (rw (sym has.names) ((c.tell.ensures.puts past (subst (λ (j : Job). IsTold j past c.args.self.now.told) (sym has.names) has.told)).adds _ _ _ (rw has.names has.lines)));
}
