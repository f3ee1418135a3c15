-- The item is of its task's top call.
use Rattle.std.proofs.Common.{ap}
use Rattle.std.specs.Prelude.{option_map}
use Rattle.ft_base.specs.Items.{call_of}
use Rattle.history_check.specs.JudgePast.{is_enter}
use Rattle.ft_hist.specs.Rules.{IsFetched}
use Rattle.history_check.proofs.RuleCalls.{no-top, of-top}
use Rattle.history_check.proofs.rules.fetches.keeps_fetches.Goals as goal

pub returns-in-Body-Some : goal.returns-in-Body-Some
returns-in-Body-Some c = λ job items k h.
    let a = c.in-Body-Some in
    rw a.is-0
    (of-top job items c.args.item.now (option_map (λ x. x.now) c.args.top) a.call-0 (ap call_of a.is-0) (ap is_enter a.is-0) h a.top.now (ap (option_map (λ x. x.now)) a.is-1)
    c.is_fetched.result (λ q. IsFetched job items q a.func.0 a.ran) (c.is_fetched.ensures job items k))

pub returns-in_default : goal.returns-in_default
returns-in_default c = λ job items k h.
    let a = c.in_default in
    no-top job items c.args.item.now (option_map (λ x. x.now) c.args.top) a.field-0-0 (ap call_of a.is-0) (ap is_enter a.is-0) h (ap (option_map (λ x. x.now)) a.is-1)
