use Rattle.std.proofs.Common.{refl, arith, codes}
use Rattle.ft_io.proofs.PieceLaws.{puts-then, puts-equal}
use Rattle.told_items.proofs.Places.{places-all, places-more}
use Rattle.told_items.proofs.fields.put_places.Goals as goal

pub loop-owed-init : goal.loop-owed-init
loop-owed-init g c = (codes "[", c.put.ensures, refl)

pub loop-owed-preserved : goal.loop-owed-preserved
loop-owed-preserved g c =
    let so_far = c.loop-owed.invariant in
    let l = c.loop-owed in
    let put = c.put_place-is_first.ensures in (
      _,
      puts-then so_far.1 put.puts,
      places-more c.args.call c.args.exits.now l.owed-index so_far.0 _ l.is_first _ _ put.first c.loop-owed-test.true so_far.2,
    )

pub returns : goal.returns
returns g c =
    let so_far = c.loop-owed.invariant in
    puts-then (puts-equal (places-all c.args.call c.args.exits.now c.loop-owed.owed-index so_far.0 _ c.loop-owed.is_first (omega arith) so_far.2) so_far.1) c.put-2.ensures
