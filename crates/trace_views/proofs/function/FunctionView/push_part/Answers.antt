use Rattle.std.proofs.Common.{sym, ◌∙◌}
use Rattle.trace_views.proofs.FunctionTakes.{line-added}
use Rattle.trace_views.proofs.function.FunctionView.push_part.Goals as goal

pub returns-then-is_tracer-clause-text : goal.returns-then-is_tracer-clause-text
returns-then-is_tracer-clause-text c = λ job past told legal.
    line-added job past c.args.self.now told c.args.item.now c.in-Back.call c.in-Back.user c.in-Back.is legal
    (sym c.is_tracer.ensures ∙ c.if-is_tracer.true) c.back_line-line.result
    (λ l. c.back_line-line.ensures.text job past told.calls l told.place') c.push_reserved.new.self.items c.push_reserved.ensures.items
