-- The first triggers are gone over.
use Rattle.std.proofs.Common.{◌≡◌}
use Rattle.ring_rules.specs.Fold.{hit_all}
use Rattle.trace_rings.specs.Traced.{with_fold}
use Rattle.trace_rings.proofs.tracer.Tracer.hit_all.Given as goal

abbrev pub invariant-loop-i : goal.invariant-loop-i
invariant-loop-i l = l.self ≡ with_fold l.fn.self (hit_all l.plan l.place l.item l.i l.fn.self.so_far)
