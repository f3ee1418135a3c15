use Rattle.std.proofs.Common.{[], ◌++◌, get_or, refl, arith}
use Rattle.ft_io.proofs.PieceLaws.{puts-none, puts-then, puts-equal}
use Rattle.told_facts.specs.Values.{escaped_byte}
use Rattle.told_facts.proofs.Texts.{bytes-all, bytes-more}
use Rattle.told_facts.proofs.fields.put_escaped.Goals as goal

pub loop-byte-init : goal.loop-byte-init
loop-byte-init g c = ([], puts-none _ _, refl)

pub loop-byte-preserved : goal.loop-byte-preserved
loop-byte-preserved g c =
    let so_far = c.loop-byte.invariant in (
      so_far.0 ++ escaped_byte (get_or c.args.bytes.now c.loop-byte.byte-index 0),
      puts-then so_far.1 c.put_byte.ensures,
      bytes-more c.args.bytes.now c.loop-byte.byte-index so_far.0 _ c.loop-byte-test.true so_far.2,
    )

pub returns : goal.returns
returns g c =
    let so_far = c.loop-byte.invariant in
    puts-equal (bytes-all c.args.bytes.now c.loop-byte.byte-index so_far.0 _ (omega arith) so_far.2) so_far.1
