use Rattle.std.proofs.Common.{[], ◌++◌, refl, sym, ◌∙◌, drop, arith}
use Rattle.ft_io.proofs.PieceLaws.{puts-none, puts-then, puts-equal, puts-dropped}
use Rattle.trace_views.specs.Words.{lines_text}
use Rattle.trace_views.proofs.LineTexts.{lines-more, lines-all}
use Rattle.trace_lines.proofs.lines.put_lines.Goals as goal

pub loop-line-init : goal.loop-line-init
loop-line-init g c = ([], puts-none c.args.sink.now c.args.pieces.now, refl)

pub loop-line-preserved : goal.loop-line-preserved
loop-line-preserved g c =
    let so_far = c.loop-line.invariant in (
      so_far.0 ++ g.L.Line.text (g.N.Named.job c.args.names.now) c.line-item.result,
      puts-then so_far.1 c.put.ensures,
      lines-more (g.L.Line.text (g.N.Named.job c.args.names.now)) c.args.lines.now c.loop-line.line-index so_far.0 _ c.line-item.result c.loop-line-test.true c.line-item.is so_far.2,
    )

-- what comes after a failure is dropped
pub returns-then-has_failed : goal.returns-then-has_failed
returns-then-has_failed g c =
    let so_far = c.loop-line.invariant in
    let failed = sym c.has_failed.ensures ∙ c.if-has_failed.true in
    puts-equal so_far.2 (puts-then so_far.1 (puts-dropped (lines_text (g.L.Line.text (g.N.Named.job c.args.names.now)) (drop c.loop-line.line-index c.args.lines.now)) c.loop-line.sink c.loop-line.pieces c.loop-line.pieces failed failed))

pub returns : goal.returns
returns g c =
    let so_far = c.loop-line.invariant in
    puts-equal (lines-all (g.L.Line.text (g.N.Named.job c.args.names.now)) c.args.lines.now c.loop-line.line-index so_far.0 _ (omega arith) so_far.2) so_far.1
