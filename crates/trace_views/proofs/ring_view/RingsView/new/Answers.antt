use Rattle.std.proofs.Common.{refl}
use Rattle.trace_views.proofs.RingBodies.{has-none}
use Rattle.trace_views.proofs.ring_view.RingsView.new.Goals as goal

pub returns : goal.returns
returns g c =
    has-none (g.N.Named.job c.args.names.now) _ _ _ c.requires c.in_ok-stacks.ensures refl c.in_ok-switch.ensures c.in_ok-rings.ensures c.cpus.ensures c.ring.ensures
