use Rattle.std.proofs.Common.{Some, sym, ap, ◌∙◌, arith}
use Rattle.ring_rules.proofs.Lists.{get-some}
use Rattle.trace_views.specs.LineRings.{LineBox, kept_text}
use Rattle.trace_views.proofs.NumberedTexts.{numbered_texts-more, numbered_texts-all}
use Rattle.trace_views.proofs.ring_view.push_rings.Goals as goal

pub loop-cpu-preserved : goal.loop-cpu-preserved
loop-cpu-preserved c = λ job.
    let rings = c.args.rings.now in
    let i = c.loop-cpu.cpu in
    let ring = c.index-rings-cpu.result in
    let within = c.loop-cpu-test.true in
    let count = c.cpus-cpu-end.ensures in
    let many = c.requires in
    rw (c.in_ok-push_lines.ensures job)
    (numbered_texts-more (kept_text job) rings _ i ring _
    (get-some rings i ring (omega (arith, within, count, many)) ∙ ap (λ (b : LineBox). Some b) (sym c.index-rings-cpu.is)) (c.loop-cpu.invariant job))

pub returns : goal.returns
returns c = λ job.
    let past = c.loop-cpu-test.false in
    let count = c.cpus-cpu-end.ensures in
    let many = c.requires in
    numbered_texts-all (kept_text job) c.args.rings.now _ c.loop-cpu.cpu _ (omega (arith, past, count, many)) (c.loop-cpu.invariant job)
