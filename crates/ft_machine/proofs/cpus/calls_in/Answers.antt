-- The act that is looked at adds one if it is a call.
use Rattle.std.proofs.Common.{◌≡◌, [], ◌∷◌, ap, get_or, arith}
use Rattle.ft_base.specs.declared.task.TaskAct.TheVariants.{Call}
use Rattle.history_laws.specs.Bound.{calls_in}
use Rattle.ft_machine.proofs.Calls.{calls-more, no-call}
use Rattle.ft_machine.proofs.cpus.calls_in.Goals.{in-Call, in_default}
use Rattle.ft_machine.proofs.cpus.calls_in.Goals as goal

pub loop-act-preserved : goal.loop-act-preserved
loop-act-preserved c =
    let more = calls-more c.args.acts.now c.loop-act.act-index (Call (record { 0 = 0 })) c.loop-act-test.true in
    elim c.match-act.branch [
      | in-Call w ↦ let one : calls_in (get_or c.args.acts.now c.loop-act.act-index (Call (record { 0 = 0 })) ∷ []) ≡ 1 =
          ap (λ a. calls_in (a ∷ [])) w.in-Call.is in
          record { calls = omega (arith, more, one, c.loop-act.invariant.calls, w.calls-is); few = omega (arith, w.calls-is, c.loop-act.invariant.few) }
      | in_default w ↦ let none = no-call _ w.in_default.not-Call in
          record { calls = omega (arith, more, none, c.loop-act.invariant.calls, w.calls-is); few = omega (arith, w.calls-is, c.loop-act.invariant.few) }
    ]
