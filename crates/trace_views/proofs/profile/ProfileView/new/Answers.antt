use Rattle.std.proofs.Common.{◌≡◌, [], length, subst, arith}
use Rattle.trace_views.specs.ProfileViews.{IsUserTally}
use Rattle.trace_views.proofs.ProfileTakes.{last-each}
use Rattle.trace_views.proofs.profile.ProfileView.new.Goals as goal

pub loop-u-preserved : goal.loop-u-preserved
loop-u-preserved g c =
    let count : c.loop-u.u ≡ length c.loop-u.users.items = omega (arith, c.loop-u.users.ok.0) in
    let made = c.in_ok-tally.ensures (g.N.Named.job c.args.names.now) c.loop-u.u c.kind.ensures c.functions.ensures in
    record {
      count' = omega (arith, c.push_reserved.ensures.len);
      room = omega (arith, c.push_reserved.ensures.capacity);
      calls = c.loop-u.invariant.calls;
      each = rw c.push_reserved.ensures.items (last-each (λ v t. IsUserTally (g.N.Named.job c.args.names.now) [] v t) c.loop-u.users.items c.in_ok-tally.tally c.loop-u.invariant.each
          (subst (λ n. IsUserTally (g.N.Named.job c.args.names.now) [] n c.in_ok-tally.tally) count made));
    }
