use Rattle.std.proofs.Common.{List, ℕ, ◌++◌, refl, subst, sym}
use Rattle.std.specs.Prelude.{reverse}
use Rattle.std.specs.Io.KnownBytes.{Appends}
use Rattle.ft_base.specs.Job.{Job}
use Rattle.told_items.specs.ItemText.{told_last, told_lines}
use Rattle.told_items.specs.Open.{IsTold}
use Rattle.fttell.proofs.Tellings.{text-is}
use Rattle.fttell.proofs.telling.Telling.end.Goals as goal

pub returns-in-Ok : goal.returns-in-Ok
returns-in-Ok g c = λ job past first has answered. (
  refl,
  subst (λ (t : List ℕ). Appends (g.K.Sink.holds first.sink) (g.K.Sink.holds c.finish.new.sink) t) (text-is job past c.args.ended)
      (c.in-Ok.ensures.ends.all (told_lines job (reverse past) ++ told_last job past c.args.ended) (g.K.Sink.holds first.sink) (g.K.Sink.faults first.sink)
      (rw (sym has.names) ((c.tell_end.ensures past (subst (λ (j : Job). IsTold j past c.args.self.told) (sym has.names) has.told)).adds _ _ _ (rw has.names has.lines)))),
)
