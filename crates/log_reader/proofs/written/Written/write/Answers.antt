use Rattle.std.proofs.Common.{ℕ, List, ◌++◌, sym, ap, ◌∙◌}
use Rattle.trace_views.specs.LogText.{log_line}
use Rattle.log_reader.proofs.WrittenLines.{line-written}
use Rattle.log_reader.proofs.written.Written.write.Goals as goal

pub returns-else-has_failed-clause-line : goal.returns-else-has_failed-clause-line
returns-else-has_failed-clause-line g c =
    line-written c.requires c.put_line.ensures c.flush.ensures.puts c.flush.ensures.empty (sym c.has_failed.ensures ∙ c.if-has_failed.false)
    ∙ ap (λ (t : List ℕ). t ++ log_line (g.N.Named.job c.args.names.now) c.args.place c.args.item.now) c.clear.ensures.items
