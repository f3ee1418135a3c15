use Rattle.ft_io.proofs.PieceLaws.{puts-then}
use Rattle.trace_views.specs.OpenCalls.{function_line_text}
use Rattle.trace_lines.proofs.function.FunctionLineLine.put.Goals as goal

pub returns : goal.returns
unfolding function_line_text
returns g c = puts-then c.put_front.ensures c.put_call.ensures
