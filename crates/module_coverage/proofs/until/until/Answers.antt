use Rattle.std.proofs.Common.{◌∙◌, ◌+◌, sym, ap, drop, arith}
use Rattle.module_coverage.specs.Spans.{commands_to, waits_in}
use Rattle.module_coverage.proofs.Places.{passes-more, stops-here}
use Rattle.module_coverage.proofs.until.until.Goals as goal

pub loop-lines-preserved : goal.loop-lines-preserved
loop-lines-preserved c =
    let inv = c.loop-lines.invariant in
    record {
      few = omega (arith, inv.few, c.commands_at-commands.ensures.few);
      passes = λ n up. inv.passes n up
          ∙ passes-more c.args.control.now c.loop-lines.lines _ c.args.task c.args.acts c.loop-lines.commands c.loop-lines-test.true n up (sym c.is_wait_for.ensures ∙ c.if-is_wait_for.false)
          ∙ ap (λ k. commands_to c.args.task n (c.loop-lines.commands + k) (drop (c.loop-lines.lines + 1) (waits_in c.args.control.now))) (sym c.commands_at-commands.ensures.value);
    }

pub returns-then-is_wait_for-clause-stops : goal.returns-then-is_wait_for-clause-stops
returns-then-is_wait_for-clause-stops c =
    stops-here c.args.control.now c.loop-lines.lines _ c.args.task c.args.acts c.loop-lines.commands c.loop-lines-test.true (sym c.is_wait_for.ensures ∙ c.if-is_wait_for.true)
