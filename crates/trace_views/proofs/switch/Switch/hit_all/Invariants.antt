-- The first triggers are gone over.
use Rattle.std.proofs.Common.{ℕ}
use Rattle.ring_rules.specs.Fold.{Tracing, hit_all}
use Rattle.trace_views.specs.RingViews.{IsSwitchOf}
use Rattle.trace_views.proofs.switch.Switch.hit_all.Given as goal

abbrev pub invariant-loop-i : goal.invariant-loop-i
invariant-loop-i l = (p : ℕ) (s : Tracing) → IsSwitchOf s l.fn.self → IsSwitchOf (hit_all l.plan p l.item l.i s) l.self
