-- One more CPU has its seat.
use Rattle.std.proofs.Common.{◌≤◌, [], refl, sym, ap, ◌∙◌, subst}
use Rattle.ring_table.specs.Views.{cpu_view, nothing}
use Rattle.ring_table.proofs.Starting.{fresh-more}
use Rattle.ring_table.proofs.gather.deal_all.Goals as goal

pub new-requires-clause-seat : goal.new-requires-clause-seat
new-requires-clause-seat c =
    (c.deal-seat.ensures.dealt c.loop-c.c c.loop-c.invariant.host).1 ∙ ap (λ p. (cpu_view p c.loop-c.c (nothing p), [])) c.requires.plan

pub loop-c-preserved : goal.loop-c-preserved
loop-c-preserved c =
    let i = c.loop-c.invariant in
    let d = c.deal-seat.ensures in
    record {
      table = d.same.0 ∙ i.table;
      host = (d.dealt c.loop-c.c i.host).0;
      seats = fresh-more _ _ _ _ _ _ _ _ _ _ i.seats c.in_ok-new.ensures.new refl (d.same.1 ∙ i.table) c.push_reserved.ensures.items;
      room = subst (λ n. c.cpus-count.result ≤ n) (sym c.push_reserved.ensures.capacity) i.room;
    }
