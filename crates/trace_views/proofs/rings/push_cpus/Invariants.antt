use Rattle.std.proofs.Common.{◌≡◌, List, ◌++◌, drop}
use Rattle.ft_base.specs.declared.item.Item.{Item}
use Rattle.ft_base.specs.Job.{Job}
use Rattle.trace_views.specs.RingLines.{HaveTexts, rings_line_text}
use Rattle.trace_views.specs.RingsText.{cpu_text}
use Rattle.trace_views.specs.Words.{lines_text, numbered_texts}
use Rattle.trace_views.proofs.rings.push_cpus.Given as goal

abbrev pub invariant-loop-cpu : goal.invariant-loop-cpu
invariant-loop-cpu l =
    (job : Job) (items : List Item) → HaveTexts job items l.backs
    → lines_text (rings_line_text job) l.lines.items ++ numbered_texts (cpu_text job items) l.cpu (drop l.cpu l.rings.cpus)
    ≡ lines_text (rings_line_text job) l.fn.lines.items ++ numbered_texts (cpu_text job items) 0 l.rings.cpus
