use Rattle.std.proofs.Common.{ℕ, ◌+◌, ◌<◌, ◌≤◌, None, subst, arith}
use Rattle.ft_desk.specs.declared.command.Ctl.TheVariants.{Run, Until}
use Rattle.ft_desk.specs.Commands.{command_of}
use Rattle.control_core.specs.declared.phase.Phase.TheVariants as phase
use Rattle.control_core.proofs.ControlFields.{phase-seen}
use Rattle.ft_desk.proofs.LineLaws.{planned}
use Rattle.control_core.proofs.Lines.{present-at, line-none, line-over, line-run, line-waits, present-is, run-in, run-kept, run-plan}
use Rattle.control_core.proofs.control.Control.got_line.Goals as goal

pub plan-self-inside-requires-clause-numbers : goal.plan-self-inside-requires-clause-numbers
plan-self-inside-requires-clause-numbers c =
    let here = present-at c.as_slice.result.now c.self.inside.lines.items c.as_slice-2.result.now c.self.inside.order.items c.self.inside.line
    c.in-Some-Run.field-0.now (Run c.in-Some-Run.command) c.as_slice.ensures.value c.as_slice-2.ensures.value (c.in-Some-Run.ensures {u = tt}).line c.in-Some-Run.field-0-is in
    run-in c.self.inside c.self.invariant c.in-Some-Run.command here

pub begin_phase-self-inside-requires : goal.begin_phase-self-inside-requires
begin_phase-self-inside-requires c =
    let here = present-at c.as_slice.result.now c.self.inside.lines.items c.as_slice-2.result.now c.self.inside.order.items c.self.inside.line
    c.in-Some-Run.field-0.now (Run c.in-Some-Run.command) c.as_slice.ensures.value c.as_slice-2.ensures.value (c.in-Some-Run.ensures {u = tt}).line c.in-Some-Run.field-0-is in
    let next = planned c.plan-self-inside.result c.self.inside.desk c.plan-self-inside.new.self
    (command_of c.self.inside.desk.declared.tasks c.in-Some-Run.command)
    c.plan-self-inside.ensures.answer c.plan-self-inside.ensures.accepted c.plan-self-inside.ensures.refused in
    run-plan c.self.inside c.self.invariant c.in-Some-Run.command here c.plan-self-inside.new.self _ next c.last.ensures

pub invariant_of-self-in-Some-Run : goal.invariant_of-self-in-Some-Run
invariant_of-self-in-Some-Run c =
    let here = present-at c.as_slice.result.now c.self.inside.lines.items c.as_slice-2.result.now c.self.inside.order.items c.self.inside.line
    c.in-Some-Run.field-0.now (Run c.in-Some-Run.command) c.as_slice.ensures.value c.as_slice-2.ensures.value (c.in-Some-Run.ensures {u = tt}).line c.in-Some-Run.field-0-is in
    let next = planned c.plan-self-inside.result c.self.inside.desk c.plan-self-inside.new.self
    (command_of c.self.inside.desk.declared.tasks c.in-Some-Run.command)
    c.plan-self-inside.ensures.answer c.plan-self-inside.ensures.accepted c.plan-self-inside.ensures.refused in
    run-kept c.self.inside c.self.invariant c.in-Some-Run.command here c.plan-self-inside.new.self c.plan-self-inside.result
    c.begin_phase-self-inside.result _ c.push_reserved.new.self
    (phase-seen c.self.inside c.args.self.now phase.Line c.self.view_is c.requires)
    next c.last.ensures c.begin_phase-self-inside.ensures c.push_reserved.ensures.len c.push_reserved.ensures.capacity

pub returns-in-None : goal.returns-in-None
returns-in-None c =
    line-none c.self.inside c.args.self.now c.self.view_is c.args.value
    (present-is c.as_slice.result.now c.self.inside.lines.items c.as_slice-2.result.now c.self.inside.order.items c.self.inside.line None
    c.as_slice.ensures.value c.as_slice-2.ensures.value (c.in-None.ensures {u = tt}).line)

pub returns-then-awaited-acts : goal.returns-then-awaited-acts
returns-then-awaited-acts c =
    line-over c.self.inside c.args.self.now c.self.view_is c.args.value c.in-Some-Until.field-0-0 c.in-Some-Until.awaited
    (present-at c.as_slice.result.now c.self.inside.lines.items c.as_slice-2.result.now c.self.inside.order.items c.self.inside.line
    c.in-Some-Until.field-0.now (Until c.in-Some-Until.field-0-0 c.in-Some-Until.awaited) c.as_slice.ensures.value c.as_slice-2.ensures.value (c.in-Some-Until.ensures {u = tt}).line c.in-Some-Until.field-0-is)
    (subst (λ (h : ℕ). c.in-Some-Until.awaited ≤ h) c.acts.ensures c.if-awaited-acts.true)

pub returns-else-awaited-acts : goal.returns-else-awaited-acts
returns-else-awaited-acts c =
    line-waits c.self.inside c.args.self.now c.self.view_is c.args.value c.in-Some-Until.field-0-0 c.in-Some-Until.awaited
    (present-at c.as_slice.result.now c.self.inside.lines.items c.as_slice-2.result.now c.self.inside.order.items c.self.inside.line
    c.in-Some-Until.field-0.now (Until c.in-Some-Until.field-0-0 c.in-Some-Until.awaited) c.as_slice.ensures.value c.as_slice-2.ensures.value (c.in-Some-Until.ensures {u = tt}).line c.in-Some-Until.field-0-is)
    (subst (λ (h : ℕ). h < c.in-Some-Until.awaited) c.acts.ensures c.if-awaited-acts.false)

pub returns-in-Some-Run : goal.returns-in-Some-Run
returns-in-Some-Run c =
    let here = present-at c.as_slice.result.now c.self.inside.lines.items c.as_slice-2.result.now c.self.inside.order.items c.self.inside.line
    c.in-Some-Run.field-0.now (Run c.in-Some-Run.command) c.as_slice.ensures.value c.as_slice-2.ensures.value (c.in-Some-Run.ensures {u = tt}).line c.in-Some-Run.field-0-is in
    let next = planned c.plan-self-inside.result c.self.inside.desk c.plan-self-inside.new.self
    (command_of c.self.inside.desk.declared.tasks c.in-Some-Run.command)
    c.plan-self-inside.ensures.answer c.plan-self-inside.ensures.accepted c.plan-self-inside.ensures.refused in
    line-run c.self.inside c.args.self.now c.self.view_is c.args.value c.in-Some-Run.command here c.self.invariant
    c.plan-self-inside.new.self c.plan-self-inside.result c.begin_phase-self-inside.result _ c.push_reserved.new.self (c.self.inside.commands_done + 1) c.items_at.result
    next c.plan-self-inside.ensures.answer c.last.ensures c.begin_phase-self-inside.ensures (omega arith) c.items_at.ensures c.push_reserved.ensures.items
