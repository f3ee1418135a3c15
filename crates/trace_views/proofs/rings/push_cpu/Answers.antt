use Rattle.std.proofs.Common.{List, ℕ, ◌++◌, ap, ◌∙◌, append_assoc}
use Rattle.std.specs.Prelude.{slice_index_or}
use Rattle.std.proofs.lemmas.Result.{on_ok_weaker}
use Rattle.ring_rules.specs.Fold.{no_ring}
use Rattle.trace_views.specs.RingLines.{rings_line_text}
use Rattle.trace_views.specs.RingsText.{cpu_line, entry_text}
use Rattle.trace_views.specs.Words.{lines_text}
use Rattle.trace_views.proofs.rings.push_cpu.Goals as goal

pub returns : goal.returns
returns c =
    on_ok_weaker c.push_entries.result
    (λ pushed job items texts.
    let old = lines_text (rings_line_text job) c.args.lines.now.items in
    let entries = lines_text (entry_text job items) (slice_index_or c.args.rings.now.cpus c.args.cpu.0 no_ring).held in
    pushed job items texts
    ∙ ap (λ (t : List ℕ). t ++ entries) (c.in_ok-push_line.ensures job)
    ∙ append_assoc old (cpu_line c.args.cpu.0 c.held.result c.written.result) entries
    ∙ (λ i. old ++ (cpu_line c.args.cpu.0 (c.held.ensures i) (c.written.ensures i) ++ entries)))
    c.push_entries.ensures
