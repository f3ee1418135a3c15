use Rattle.std.proofs.Common.{ℕ, ◌+◌, [], ◌++◌, refl, arith, sym, ap, ◌∙◌, drop, codes}
use Rattle.std.specs.Fmt.{decimal}
use Rattle.ft_io.proofs.PieceLaws.{puts-none, puts-then, puts-equal, puts-dropped}
use Rattle.trace_views.specs.LogText.{joined, item_words, log_line, log_lines}
use Rattle.trace_lines.proofs.LogLines.{log_line-said, log_lines-more, log_lines-all}
use Rattle.trace_lines.proofs.log.put_log.Goals as goal

pub loop-place-init : goal.loop-place-init
loop-place-init g c = ([], puts-none c.args.sink.now c.args.pieces.now, refl, c.of-digits.ensures)

pub loop-place-preserved : goal.loop-place-preserved
loop-place-preserved g c =
    let so_far = c.loop-place.invariant in (
      so_far.0 ++ log_line (g.N.Named.job c.args.names.now) c.loop-place.place c.item.result.now,
      puts-then {b = log_line (g.N.Named.job c.args.names.now) c.loop-place.place c.item.result.now} so_far.1 (puts-equal (ap (λ (n : ℕ). decimal n ++ (codes " " ++ (joined (item_words (g.N.Named.job c.args.names.now) c.item.result.now) ++ codes "\n"))) so_far.3 ∙ log_line-said (g.N.Named.job c.args.names.now) c.loop-place.place c.item.result.now)
          (puts-then c.put.ensures (puts-then c.put_item.ensures c.put-in-loop-place.ensures))),
      log_lines-more (g.N.Named.job c.args.names.now) c.args.history.now.items c.loop-place.place c.item.result.now _ _ _ c.item.ensures refl so_far.2,
      c.count.ensures ∙ ap (λ (n : ℕ). n + 1) so_far.3,
    )

-- what comes after a failure is dropped
pub returns-then-has_failed : goal.returns-then-has_failed
returns-then-has_failed g c =
    let so_far = c.loop-place.invariant in
    let failed = sym c.has_failed.ensures ∙ c.if-has_failed.true in
    let rest = log_lines (g.N.Named.job c.args.names.now) c.loop-place.place (drop c.loop-place.place c.args.history.now.items) in
    puts-equal {a = so_far.0 ++ rest} so_far.2 (puts-then so_far.1 (puts-dropped rest c.loop-place.sink c.loop-place.pieces c.loop-place.pieces failed failed))

pub returns : goal.returns
returns g c =
    let so_far = c.loop-place.invariant in
    puts-equal (log_lines-all (g.N.Named.job c.args.names.now) c.args.history.now.items c.loop-place.place so_far.0 (omega arith) so_far.2) so_far.1
