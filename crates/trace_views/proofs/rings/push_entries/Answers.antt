use Rattle.std.proofs.Common.{arith, rules, ◌∙◌}
use Rattle.std.specs.Prelude.{slice_index, slice_index_or}
use Rattle.ring_rules.specs.Fold.{no_ring}
use Rattle.ring_rules.proofs.Lists.{get-some}
use Rattle.trace_views.specs.RingLines.{HasLine}
use Rattle.trace_views.specs.RingsText.{entry_text}
use Rattle.trace_views.proofs.LeafLaws.{each-get}
use Rattle.trace_views.proofs.LineTexts.{lines-more, lines-all}
use Rattle.trace_views.proofs.BackLines.{entry-said}
use Rattle.trace_views.proofs.rings.push_entries.Goals as goal

pub line_of-line-requires-clause-there : goal.line_of-line-requires-clause-there
line_of-line-requires-clause-there c =
    let held = (slice_index_or c.args.rings.now.cpus c.args.cpu.0 no_ring).held in
    let within = c.loop-i-test.true in
    let count = c.held-i-end.ensures in
    rw c.entry.ensures (each-get (HasLine c.args.backs.now) held c.loop-i.i (slice_index held c.loop-i.i) (get-some held c.loop-i.i 0 (omega (arith, within, count))) c.requires.there)

pub loop-i-preserved : goal.loop-i-preserved
loop-i-preserved c = λ job items texts.
    let held = (slice_index_or c.args.rings.now.cpus c.args.cpu.0 no_ring).held in
    let within = c.loop-i-test.true in
    let count = c.held-i-end.ensures in
    rw (
      c.in_ok-push_line.ensures job,
      entry-said job items c.args.backs.now c.line_of-line.result (slice_index held c.loop-i.i) texts c.line_of-line.ensures.among
          (c.line_of-line.ensures.place ∙ c.entry.ensures),
    )
    (lines-more (entry_text job items) held c.loop-i.i _ _ (slice_index held c.loop-i.i) (omega (arith, within, count)) (search rules) (c.loop-i.invariant job items texts))

pub returns : goal.returns
returns c = λ job items texts.
    let past = c.loop-i-test.false in
    let count = c.held-i-end.ensures in
    lines-all (entry_text job items) (slice_index_or c.args.rings.now.cpus c.args.cpu.0 no_ring).held c.loop-i.i _ _ (omega (arith, past, count)) (c.loop-i.invariant job items texts)
