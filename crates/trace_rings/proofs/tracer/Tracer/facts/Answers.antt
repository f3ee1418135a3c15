use Rattle.std.proofs.Common.{ℕ, ◌≤◌, subst}
use Rattle.std.specs.Prelude.{slice_index_or}
use Rattle.ring_rules.specs.Fold.{no_ring}
use Rattle.trace_rings.specs.Traced.{Traced}
use Rattle.trace_rings.proofs.Folds.{written-at}
use Rattle.trace_rings.proofs.tracer.Tracer.facts.Goals as goal

pub returns-clause-written : goal.returns-clause-written
returns-clause-written c =
    subst (λ (t : Traced). (k : ℕ) → (slice_index_or t.so_far.rings.cpus k no_ring).written ≤ t.seen) c.self.view_is
    (written-at _ _ _ _ c.self.invariant)
