use Rattle.std.proofs.Common.{[], Bool, arith, length, ◌++◌, ◌+◌, ◌-◌, ◌∙◌, ap}
use Rattle.ft_io.proofs.PieceLaws.{puts-none, puts-then, puts-equal}
use Rattle.told_facts.specs.Commands.{member}
use Rattle.told_facts.specs.Values.{part, parts}
use Rattle.told_facts.proofs.Texts.{parts-all, parts-more, parts-none}
use Rattle.told_facts.proofs.commands.put_members.Goals as goal

pub loop-f-init : goal.loop-f-init
loop-f-init g c = ([], puts-none _ _, parts-none (member c.args.set.now) _)

pub loop-f-preserved : goal.loop-f-preserved
loop-f-preserved g c =
    let so_far = c.loop-f.invariant in
    let l = c.loop-f in
    let say = member c.args.set.now in
    let n = length c.args.set.now in (
      _,
      puts-then so_far.1 c.put_member-is_first.ensures.puts,
      ap (λ (b : Bool). (so_far.0 ++ part l.is_first (say l.f)) ++ parts say b (l.f + 1) (n - (l.f + 1))) c.put_member-is_first.ensures.first
          ∙ parts-more say l.f n so_far.0 _ l.is_first (omega (arith, c.loop-f-test.true)) so_far.2,
    )

pub returns : goal.returns
returns g c =
    let so_far = c.loop-f.invariant in
    puts-equal (parts-all (member c.args.set.now) c.loop-f.f _ so_far.0 _ c.loop-f.is_first (omega arith) so_far.2) so_far.1
