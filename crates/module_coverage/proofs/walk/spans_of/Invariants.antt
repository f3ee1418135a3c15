use Rattle.std.proofs.Common.{◌≤◌, drop}
use Rattle.std.specs.Prelude.{◌↔◌}
use Rattle.module_coverage.specs.declared.span.Span.{Span}
use Rattle.module_coverage.specs.Spans.{IsSpan}
use Rattle.module_coverage.specs.Walks.{Leads, Finds}
use Rattle.module_coverage.proofs.walk.spans_of.Given as goal

abbrev pub invariant-loop-i : goal.invariant-loop-i
invariant-loop-i l = record {
  few : l.walk.place.commands ≤ l.walk.place.lines;
  leads : Leads l.control l.task l.i l.walk.place;
  finds : (s : Span) → IsSpan l.control l.task l.acts s ↔ Finds l.control l.task l.i l.walk (drop l.i l.acts) s;
}
