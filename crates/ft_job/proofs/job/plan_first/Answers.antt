use Rattle.std.proofs.Common.{refl, ◌∙◌, arith}
use Rattle.ft_desk.specs.declared.command.Ctl.TheVariants.{Run, Until}
use Rattle.ft_desk.proofs.LineLaws.{line-at, planned}
use Rattle.ft_job.proofs.DeskLaws.{commands-next, counted-next, counted-wait, declared-next, new-commands, new-state, state-next, state-over}
use Rattle.ft_job.proofs.job.plan_first.Goals as goal
use Rattle.ft_job.proofs.job.plan_first.Goals.{in-Run, in_default}

pub loop-line-init : goal.loop-line-init
loop-line-init c = record {
  declared = refl;
  few = let e = new-commands c.args.present.now c.requires.opened in omega (arith, e);
  counted = new-commands c.args.present.now c.requires.opened;
  state = λ job is lines. new-state c.args.present.now c.requires.opened job is;
}

pub loop-line-preserved : goal.loop-line-preserved
loop-line-preserved c =
    let old = c.args.present.now.declared in
    let xs = c.args.ctls.now in
    let i = c.loop-line.line-index in
    let was = c.loop-line.present in
    let next = c.match-line.present in
    let h = c.loop-line.invariant in
    elim c.match-line.branch [
      | in-Run w ↦
          let at = line-at xs xs i c.line-item.result (Run w.in-Run.command) refl c.loop-line-test.true c.line-item.is w.in-Run.is in
          let then = w.present-is ∙ planned w.plan.result was w.plan.new.self _ w.plan.ensures.answer w.plan.ensures.accepted w.plan.ensures.refused in
          let more = commands-next old xs i was h.declared h.counted w.in-Run.command at next then in
          record {
            declared = declared-next old xs i was h.declared h.counted w.in-Run.command at next then;
            few = (let few = h.few in let read = c.commands.ensures in let other = c.if-commands-k.false in omega (arith, few, read, other, more));
            counted = counted-next old xs i was h.declared h.counted w.in-Run.command at next then;
            state = λ job is lines. state-next old xs i was h.declared h.counted w.in-Run.command at next then job is lines (h.state job is lines);
          }
      | in_default w ↦
          let at = line-at xs xs i c.line-item.result (Until w.in_default.field-0 w.in_default.field-1) refl c.loop-line-test.true c.line-item.is w.in_default.is in
          rw w.present-is (record {
            declared = h.declared;
            few = h.few;
            counted = counted-wait old xs i was h.declared h.counted w.in_default.field-0 w.in_default.field-1 at;
            state = h.state;
          })
    ]

pub returns-clause-state : goal.returns-clause-state
returns-clause-state c = λ job is lines.
    state-over c.args.present.now.declared c.args.ctls.now c.loop-line.line-index c.loop-line.present c.loop-line.invariant.declared c.loop-line.invariant.counted job c.args.k lines
    c.loop-line-test.false c.loop-line.invariant.few (c.loop-line.invariant.state job is lines)
