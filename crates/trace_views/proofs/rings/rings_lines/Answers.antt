use Rattle.std.proofs.Common.{List, ℕ, ◌++◌, ap, ◌∙◌}
use Rattle.trace_views.specs.RingLines.{rings_line_text}
use Rattle.trace_views.specs.RingsText.{cpu_text, trigger_text}
use Rattle.trace_views.specs.Words.{lines_text, numbered_texts}
use Rattle.trace_views.proofs.BackLines.{have-lines}
use Rattle.trace_views.proofs.rings.rings_lines.Goals as goal

pub push_cpus-requires-clause-rising : goal.push_cpus-requires-clause-rising
push_cpus-requires-clause-rising g c = rw c.as_slice.ensures.value c.in_ok-backs.ensures.rising

pub push_cpus-requires-clause-there : goal.push_cpus-requires-clause-there
push_cpus-requires-clause-there g c =
    rw c.as_slice.ensures.value (have-lines (g.N.Named.job c.args.names.now) c.args.history.now.items c.in_ok-backs.backs.items c.args.rings.now c.in_ok-backs.ensures c.requires.entries)

pub returns : goal.returns
returns g c =
    let job = g.N.Named.job c.args.names.now in
    let cpus = c.in_ok-push_cpus.ensures job c.args.history.now.items (rw c.as_slice.ensures.value c.in_ok-backs.ensures.texts) in
    c.in_ok-push_triggers.ensures job
    ∙ ap (λ (t : List ℕ). t ++ numbered_texts trigger_text 0 c.args.rings.now.fired) (cpus
    ∙ ap (λ lines. lines_text (rings_line_text job) lines ++ numbered_texts (cpu_text job c.args.history.now.items) 0 c.args.rings.now.cpus) c.new-lines.ensures.items)
