-- One more seat has joined control's.
use Rattle.std.proofs.Common.{◌++◌, ◌∷◌, [], List, length, sym, ap, ◌∙◌, arith, append_assoc, length-append}
use Rattle.std.specs.Vec.Iter.{into_iter_items}
use lib.ListN.{get_elem?}
use Rattle.word_map.specs.Shapes.{shape_of}
use Rattle.live_table.specs.Views.{View}
use Rattle.dealt_seats.specs.Views.{cpu, part}
use Rattle.live_table.specs.Seats.{Board, CpuPlace, items_at}
use Rattle.live_table.proofs.Joined.{has-clock, joined-more, listed-more, next-sits}
use Rattle.live_table.proofs.Seating.{joins}
use Rattle.live_table.proofs.live.Live.join_all.Goals as goal

pub join_seat-requires : goal.join_seat-requires
join_seat-requires c =
    let i = c.loop-joining.invariant in
    let done = c.loop-joining.yielded in
    let left = into_iter_items c.next.new.self in
    let mine = next-sits c.args.self.now done left _ c.in-Some.joining c.requires.cpus
    (ap (λ (l : List CpuPlace). done ++ l) (sym c.in-Some.ensures.steps.0) ∙ i.rest) in
    let table = ap (λ (b : Board). b.table_id) c.self.view_is in
    let key = ap (λ (b : Board). b.job) c.self.view_is in
    let words = c.self.invariant.words in
    let clock = has-clock (shape_of c.self.inside.table.shared.key.job.value) in (
      i.table ∙ sym table,
      ap (λ (s : CpuPlace). s.table_id) c.joining.view_is ∙ mine.0 ∙ sym table,
      ap (λ m. m.1) c.joining.invariant.view',
      omega (arith, words, clock),
      joins _ _ _ _ _ _ _ _ _ (ap (λ (v : View). get_elem? v.parts 0) i.parts) (ap (λ m. m.0) c.joining.invariant.view')
          (ap (λ (s : CpuPlace). s.job) c.joining.view_is ∙ mine.1 ∙ sym key),
    )

pub loop-joining-preserved : goal.loop-joining-preserved
loop-joining-preserved c =
    let i = c.loop-joining.invariant in
    let j = c.join_seat.ensures in
    let p = c.push_reserved-in-loop-joining.ensures in
    let done = c.loop-joining.yielded in
    let left = into_iter_items c.next.new.self in
    let one = length-append done (c.in-Some.joining ∷ []) in
    record {
      table = j.0 ∙ i.table;
      parts = ap (λ m. m.0) j.2 ∙ joined-more _ _ _ _ _ _ _ _ _ _ c.in-Some.joining i.parts (ap (λ m. m.0) c.joining.invariant.view')
          (ap (λ (s : CpuPlace). part (cpu s.number) s.values) c.joining.view_is);
      listed = listed-more c.loop-joining.lists.items _ c.into_items-in-loop-joining.result c.args.control done c.in-Some.joining i.listed p.items
          (c.into_items-in-loop-joining.ensures ∙ c.joining.invariant.marked ∙ ap items_at c.joining.view_is);
      count = (let e = ap length p.items in
          let more = length-append c.loop-joining.lists.items (c.into_items-in-loop-joining.result ∷ []) in
          let n = i.count in
          omega (arith, e, more, n, one));
      room = (let e = p.capacity in let n = i.room in omega (arith, e, n));
      rest = append_assoc done (c.in-Some.joining ∷ []) left ∙ ap (λ (l : List CpuPlace). done ++ l) (sym c.in-Some.ensures.steps.0) ∙ i.rest;
    }
