use Rattle.std.proofs.Common.{◌≡◌, List, ◌++◌, drop}
use Rattle.std.specs.Prelude.{slice_index_or}
use Rattle.ft_base.specs.declared.item.Item.{Item}
use Rattle.ft_base.specs.Job.{Job}
use Rattle.ring_rules.specs.Fold.{no_ring}
use Rattle.trace_views.specs.RingLines.{HaveTexts, rings_line_text}
use Rattle.trace_views.specs.RingsText.{entry_text}
use Rattle.trace_views.specs.Words.{lines_text}
use Rattle.trace_views.proofs.rings.push_entries.Given as goal

abbrev pub invariant-loop-i : goal.invariant-loop-i
invariant-loop-i l =
    (job : Job) (items : List Item) → HaveTexts job items l.backs
    → lines_text (rings_line_text job) l.lines.items ++ lines_text (entry_text job items) (drop l.i (slice_index_or l.rings.cpus l.cpu.0 no_ring).held)
    ≡ lines_text (rings_line_text job) l.fn.lines.items ++ lines_text (entry_text job items) (slice_index_or l.rings.cpus l.cpu.0 no_ring).held
