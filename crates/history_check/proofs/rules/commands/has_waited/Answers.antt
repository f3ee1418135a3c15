use Rattle.std.proofs.Common.{refl}
use Rattle.std.proofs.lemmas.List.{drop_all}
use Rattle.std.proofs.lemmas.Bool.{false≢true, iff_false}
use Rattle.history_check.proofs.JudgeControl.{all-lines, at-command, no-line, wait-met, wait-not}
use Rattle.history_check.proofs.rules.commands.has_waited.Goals as goal

pub loop-line-init : goal.loop-line-init
loop-line-init c = λ job items is. all-lines job items c.args.past.now is

pub returns-then-not-has_done : goal.returns-then-not-has_done
returns-then-not-has_done c = λ job items is. (
  λ yes. absurd (false≢true yes),
  λ has. absurd (wait-not job items c.args.past.now.lines.now c.loop-line.line-index c.line-item.result c.loop-line-test.true c.line-item.is (c.loop-line.invariant job items is)
      c.in-Until.task c.in-Until.acts c.in-Until.is (iff_false (c.has_done.ensures job items is) c.if-not-has_done.true) has),
)

pub returns-in-Run : goal.returns-in-Run
returns-in-Run c = λ job items is. (
  λ yes. at-command job items c.args.past.now.lines.now c.loop-line.line-index c.line-item.result c.loop-line-test.true c.line-item.is (c.loop-line.invariant job items is) c.in-Run.field-0 c.in-Run.is,
  λ has. refl,
)

pub loop-line-preserved : goal.loop-line-preserved
loop-line-preserved c = λ job items is.
    wait-met job items c.args.past.now.lines.now c.loop-line.line-index c.line-item.result c.loop-line-test.true c.line-item.is (c.loop-line.invariant job items is)
    c.in-Until.task c.in-Until.acts c.in-Until.is ((c.has_done.ensures job items is).0 c.if-not-has_done.false)

pub returns : goal.returns
returns c = λ job items is. (
  λ h. no-line job items c.args.past.now.lines.now c.loop-line.line-index (drop_all c.loop-line.line-index c.args.past.now.lines.now c.loop-line-test.false) (c.loop-line.invariant job items is),
  λ has. refl,
)
