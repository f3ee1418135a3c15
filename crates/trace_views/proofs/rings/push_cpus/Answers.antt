use Rattle.std.proofs.Common.{arith}
use Rattle.std.specs.List.{AllByRecursion as Each}
use Rattle.std.specs.Prelude.{slice_index_or}
use Rattle.ft_base.proofs.Small.{each-get}
use Rattle.ring_rules.specs.Fold.{no_ring}
use Rattle.ring_rules.proofs.Lists.{get-some}
use Rattle.trace_views.specs.RingLines.{HasLine}
use Rattle.trace_views.specs.RingsText.{cpu_text}
use Rattle.trace_views.proofs.NumberedTexts.{numbered_texts-more, numbered_texts-all}
use Rattle.trace_views.proofs.rings.push_cpus.Goals as goal

pub push_cpu-requires-clause-there : goal.push_cpu-requires-clause-there
push_cpu-requires-clause-there c = each-get (λ ring. Each (HasLine c.args.backs.now) ring.held) c.args.rings.now.cpus c.loop-cpu.cpu no_ring tt c.requires.there

pub loop-cpu-preserved : goal.loop-cpu-preserved
loop-cpu-preserved c = λ job items texts.
    let cpus = c.args.rings.now.cpus in
    let n = c.loop-cpu.cpu in
    let within = c.loop-cpu-test.true in
    let count = c.cpus-cpu-end.ensures in
    rw (c.in_ok-push_cpu.ensures job items texts)
    (numbered_texts-more (cpu_text job items) cpus _ n (slice_index_or cpus n no_ring) _ (get-some cpus n no_ring (omega (arith, within, count))) (c.loop-cpu.invariant job items texts))

pub returns : goal.returns
returns c = λ job items texts.
    let past = c.loop-cpu-test.false in
    let count = c.cpus-cpu-end.ensures in
    numbered_texts-all (cpu_text job items) c.args.rings.now.cpus _ c.loop-cpu.cpu _ (omega (arith, past, count)) (c.loop-cpu.invariant job items texts)
