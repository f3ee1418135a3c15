use Rattle.std.proofs.Common.{List, ℕ, ◌++◌, ap, ◌∙◌, append_assoc, arith}
use Rattle.trace_views.specs.OpenCalls.{function_line_text}
use Rattle.trace_views.specs.LineRings.{LineBox}
use Rattle.trace_views.specs.RingLines.{rings_line_text}
use Rattle.trace_views.specs.RingsText.{cpu_line}
use Rattle.trace_views.specs.Words.{lines_text}
use Rattle.trace_views.proofs.LineTexts.{lines-more, lines-all}
use Rattle.trace_views.proofs.RingTakes.{got-at}
use Rattle.trace_views.proofs.line_ring.LineRing.push_lines.Goals as goal

pub loop-i-init : goal.loop-i-init
loop-i-init c = λ job.
    let old = lines_text (rings_line_text job) c.args.lines.now.items in
    let entries = lines_text (function_line_text job) c.args.self.now.lines in
    ap (λ (t : List ℕ). t ++ entries) (c.in_ok-push_line.ensures job)
    ∙ append_assoc old (cpu_line c.args.cpu c.held.result c.self.inside.written) entries
    ∙ (λ j. old ++ (cpu_line c.args.cpu (c.held.ensures j) (ap (λ (b : LineBox). b.written) c.self.view_is j) ++ entries))

pub loop-i-preserved : goal.loop-i-preserved
loop-i-preserved c = λ job.
    let within = c.loop-i-test.true in
    let count = c.held-i-end.ensures in
    rw (c.in_ok-push_line-2.ensures job)
    (lines-more (function_line_text job) c.args.self.now.lines c.loop-i.i _ _ c.entry.result (omega (arith, within, count))
    (got-at c.args.self.now.lines c.loop-i.i c.entry.result c.entry.ensures) (c.loop-i.invariant job))

pub returns : goal.returns
returns c = λ job.
    let past = c.loop-i-test.false in
    let count = c.held-i-end.ensures in
    lines-all (function_line_text job) c.args.self.now.lines c.loop-i.i _ _ (omega (arith, past, count)) (c.loop-i.invariant job)
