use Rattle.std.proofs.Common.{[], refl, arith, ◌∙◌}
use Rattle.ft_io.proofs.PieceLaws.{puts-none, puts-then, puts-equal}
use Rattle.told_items.proofs.Places.{calls-all, calls-more}
use Rattle.told_items.proofs.fields.put_open_calls.Goals as goal

pub loop-opened-init : goal.loop-opened-init
loop-opened-init g c = ([], puts-none _ _, refl)

pub loop-opened-preserved : goal.loop-opened-preserved
loop-opened-preserved g c =
    let so_far = c.loop-opened.invariant in
    let job = g.N.Named.job c.args.names.now in
    let exits = c.args.exits.now in
    let l = c.loop-opened in (
      _,
      puts-then so_far.1 (puts-then (puts-equal (c.as_bytes.ensures.value ∙ c.comma.ensures) c.put.ensures) c.put_one_open.ensures),
      calls-more job exits c.args.calls.now l.opened-index so_far.0 _ l.is_first _ c.loop-opened-test.true so_far.2,
    )

pub returns : goal.returns
returns g c =
    let so_far = c.loop-opened.invariant in
    let job = g.N.Named.job c.args.names.now in
    puts-equal (calls-all job c.args.exits.now c.args.calls.now c.loop-opened.opened-index so_far.0 _ c.loop-opened.is_first (omega arith) so_far.2) so_far.1
