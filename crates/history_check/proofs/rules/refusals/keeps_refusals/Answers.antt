-- The item is of its task's top call.
use Rattle.std.proofs.Common.{ap}
use Rattle.std.specs.Prelude.{option_map}
use Rattle.ft_base.specs.Items.{call_of}
use Rattle.ft_hist.specs.Rules.{MayRefuse, PassesAll}
use Rattle.history_check.specs.JudgePast.{is_enter}
use Rattle.history_check.proofs.RuleCalls.{no-top, of-top}
use Rattle.history_check.proofs.rules.refusals.keeps_refusals.Goals as goal

pub returns-in-Back-Some : goal.returns-in-Back-Some
returns-in-Back-Some c = λ job items k h.
    let a = c.in-Back-Some in
    rw a.is-0
    (of-top job items c.args.item.now (option_map (λ x. x.now) c.args.top) a.call-0 (ap call_of a.is-0) (ap is_enter a.is-0) h a.top.now (ap (option_map (λ x. x.now)) a.is-1)
    c.passes_all.result (λ q. PassesAll job items q a.user.0) (c.passes_all.ensures job items k))

pub returns-in-Refuse-Some : goal.returns-in-Refuse-Some
returns-in-Refuse-Some c = λ job items k h.
    let a = c.in-Refuse-Some in
    rw a.is-0
    (of-top job items c.args.item.now (option_map (λ x. x.now) c.args.top) a.call-0 (ap call_of a.is-0) (ap is_enter a.is-0) h a.top.now (ap (option_map (λ x. x.now)) a.is-1)
    c.may_refuse.result (λ q. MayRefuse job items q a.user.0 a.reason) (c.may_refuse.ensures job items k))

pub returns-in_default : goal.returns-in_default
returns-in_default c = λ job items k h.
    let a = c.in_default in
    no-top job items c.args.item.now (option_map (λ x. x.now) c.args.top) a.field-0-0 (ap call_of a.is-0) (ap is_enter a.is-0) h (ap (option_map (λ x. x.now)) a.is-1)

pub returns-in_default-2 : goal.returns-in_default-2
returns-in_default-2 c = λ job items k h.
    let a = c.in_default in
    no-top job items c.args.item.now (option_map (λ x. x.now) c.args.top) a.field-0-0 (ap call_of a.is-0) (ap is_enter a.is-0) h (ap (option_map (λ x. x.now)) a.is-1)
