use Rattle.trace_rings.proofs.Folds.{write-as, written-rings}
use Rattle.trace_rings.specs.contracts.tracer.Tracer.{the_view}
use Rattle.trace_rings.proofs.tracer.Tracer.write.Goals as goal

pub returns : goal.returns
returns c =
    write-as (the_view c.self.inside) c.args.self.now _ c.args.cpu c.args.place c.self.view_is
    (written-rings c.self.inside.rings.items c.write_at.new.rings.items c.args.cpu c.args.place c.self.inside.most c.write_at.ensures
    (λ lt. (c.self.invariant.boxes' c.args.cpu lt).1))
