use Rattle.std.proofs.Common.{[], Bool, List, ℕ, arith, ap₂, ◌≡◌, ◌++◌, ◌+◌, ◌-◌, ◌∙◌, ap}
use Rattle.ft_io.proofs.PieceLaws.{puts-none, puts-then, puts-equal}
use Rattle.std.specs.Prelude.{Option, ◌&&◌, is_none}
use Rattle.ft_base.specs.Job.{funcs}
use Rattle.told_facts.specs.Commands.{changed_site, new_site}
use Rattle.told_facts.specs.Values.{part, parts}
use Rattle.told_facts.proofs.Texts.{parts-all, parts-more, parts-none}
use Rattle.told_facts.proofs.commands.put_sites.Goals as goal

pub loop-f-init : goal.loop-f-init
loop-f-init g c = ([], puts-none _ _, parts-none (changed_site c.args.names.now c.args.before.now.state c.args.after.now.state) _)

pub loop-f-preserved : goal.loop-f-preserved
loop-f-preserved g c =
    let so_far = c.loop-f.invariant in
    let l = c.loop-f in
    let job = c.args.names.now in
    let old = c.args.before.now.state in
    let new = c.args.after.now.state in
    let say = changed_site job old new in
    let n = funcs job in
    let same : new_site job l.f c.ran-was.result c.ran-is.result ≡ say l.f = ap₂ (new_site job l.f) c.ran-was.ensures c.ran-is.ensures in (
      so_far.0 ++ part l.is_first (say l.f),
      puts-then so_far.1 (puts-equal (ap (part l.is_first) same) c.put_site-is_first.ensures.puts),
      ap (λ (b : Bool). (so_far.0 ++ part l.is_first (say l.f)) ++ parts say b (l.f + 1) (n - (l.f + 1))) (c.put_site-is_first.ensures.first ∙ ap (λ (o : Option (List ℕ)). l.is_first && is_none o) same)
          ∙ parts-more say l.f n so_far.0 _ l.is_first (omega (arith, c.loop-f-test.true, c.functions-f-end.ensures, c.requires.after)) so_far.2,
    )

pub returns : goal.returns
returns g c =
    let so_far = c.loop-f.invariant in
    puts-equal (parts-all (changed_site c.args.names.now c.args.before.now.state c.args.after.now.state) c.loop-f.f _ so_far.0 _ c.loop-f.is_first (omega arith) so_far.2) so_far.1
