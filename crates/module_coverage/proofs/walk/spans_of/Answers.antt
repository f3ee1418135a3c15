use Rattle.std.proofs.Common.{◌≡◌, ◌+◌, [], sym, ap, subst, drop, length, arith, add-one}
use Rattle.std.specs.Prelude.{◌↔◌}
use Rattle.std.proofs.lemmas.List.{drop_more, drop_all}
use Rattle.std.proofs.lemmas.Result.{IfOk-weaker}
use Rattle.module_coverage.specs.declared.until.Place.{Place}
use Rattle.module_coverage.specs.Spans.{IsSpan, commands_to, waits_in}
use Rattle.module_coverage.specs.Walks.{Leads, Finds}
use Rattle.module_coverage.proofs.Steps.{finds-first, both, turned}
use Rattle.module_coverage.proofs.walk.spans_of.Goals as goal

pub loop-i-init : goal.loop-i-init
loop-i-init c =
    let new = c.new-walk.ensures in
    let lines = ap (λ (p : Place). p.lines) new.place in
    let commands = ap (λ (p : Place). p.commands) new.place in
    record {
      few = omega (arith, lines, commands);
      leads = λ n up. ap (λ (p : Place). commands_to c.args.task n p.commands (drop p.lines (waits_in c.args.control.now))) (sym new.place);
      finds = λ s. finds-first c.args.control.now c.args.task c.new-walk.result.from c.new-walk.result.entered.items c.new-walk.result.spans.items c.args.acts.now s new.from new.entered new.spans;
    }

pub loop-i-preserved : goal.loop-i-preserved
loop-i-preserved c =
    let inv = c.loop-i.invariant in
    let pass = c.in_ok-pass.ensures in
    let i = c.loop-i.i in
    let acts = c.args.acts.now in
    record {
      few = pass.few;
      leads = pass.leads i (add-one i) inv.leads;
      finds = λ s. both (subst (λ below. IsSpan c.args.control.now c.args.task acts s ↔ Finds c.args.control.now c.args.task i c.loop-i.walk below s) (drop_more acts i _ c.loop-i-test.true) (inv.finds s))
          (pass.finds i (add-one i) inv.leads (drop (i + 1) acts) s);
    }

pub returns : goal.returns
returns c =
    let inv = c.loop-i.invariant in
    let i = c.loop-i.i in
    let control = c.args.control.now in
    let task = c.args.task in
    let acts = c.args.acts.now in
    let walk = c.loop-i.walk in
    let end : i ≡ length acts = omega arith in
    let leads = subst (λ n. Leads control task n walk.place) end inv.leads in
    IfOk-weaker c.finish.result _ _ (λ v h s.
    let rest = subst (λ below. IsSpan control task acts s ↔ Finds control task i walk below s) (drop_all i acts c.loop-i-test.false) (inv.finds s) in
    let all = subst (λ n. IsSpan control task acts s ↔ Finds control task n walk [] s) end rest in
    both (h leads s) (turned all)) c.finish.ensures
