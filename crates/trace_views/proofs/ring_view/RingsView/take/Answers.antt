use Rattle.std.proofs.Common.{length, refl, arith}
use Rattle.trace_views.specs.RingViews.{so_far}
use Rattle.trace_views.proofs.RingBodies.{hits-count, hits-few, written-few}
use Rattle.trace_views.proofs.RingTakes.{hit-as, taken-in}
use Rattle.trace_views.proofs.ring_view.RingsView.take.Goals as goal

pub hit_all-requires-clause-count : goal.hit_all-requires-clause-count
hit_all-requires-clause-count c = let r = c.requires in hits-count r.0 r.1 c.args.self.now r.2

pub hit_all-requires-clause-few : goal.hit_all-requires-clause-few
hit_all-requires-clause-few c = λ i.
    let r = c.requires in
    let few = hits-few r.0 r.1 c.args.self.now r.2 i in
    let room = r.4 in
    omega (arith, few, room)

pub write_entry-requires : goal.write_entry-requires
write_entry-requires c = λ cpu.
    let r = c.requires in
    let few = written-few r.0 r.1 c.args.self.now r.2 cpu in
    let room = r.4 in
    omega (arith, few, room)

pub returns : goal.returns
returns c = λ job past told legal.
    taken-in job past c.args.item.now c.args.self.now _ told refl refl (c.follow.ensures job past told.calls legal)
    (hit-as job past c.args.item.now c.args.self.now.plan _ told.plan' (c.hit_all.ensures (length past) (so_far job past) told.switch'))
    c.entry-line.result c.entry-line.ensures.none c.entry-line.ensures.some
    (λ line. c.entry-line.ensures.line job past line told.calls legal told.place')
    c.write_entry.ensures.none c.write_entry.ensures.some
