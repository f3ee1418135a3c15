use Rattle.std.proofs.Common.{sym, ap, subst, ◌∷◌}
use Rattle.std.specs.Prelude.{◌↔◌}
use Rattle.ft_base.specs.declared.task.TaskAct.{TaskAct}
use Rattle.script_waits.specs.declared.script.LinedAct.{LinedAct}
use Rattle.module_coverage.specs.Walks.{Finds}
use Rattle.module_coverage.proofs.Steps.{finds-call, finds-after, finds-other}
use Rattle.module_coverage.proofs.walk.Walk.pass.Goals as goal

pub returns-in_ok-push-in-Call-clause-finds : goal.returns-in_ok-push-in-Call-clause-finds
returns-in_ok-push-in-Call-clause-finds c = λ a next leads rest s.
    finds-call c.args.control.now c.args.task a c.args.number c.args.self.now.from c.args.act c.in-Call.func c.args.self.now.entered.items c.push.new.self.items rest s c.args.self.now.spans.items next c.in-Call.is
    c.in_ok-push-in-Call.ensures.items

pub returns-in_ok-leave-in-Ret-clause-finds : goal.returns-in_ok-leave-in-Ret-clause-finds
returns-in_ok-leave-in-Ret-clause-finds c = λ a next leads rest s.
    let same = ap (λ (y : TaskAct). record { act = y; line = c.args.act.line }) (sym c.in-Ret.is) in
    subst (λ (x : LinedAct). Finds c.args.control.now c.args.task a c.args.self.now (x ∷ rest) s ↔ Finds c.args.control.now c.args.task c.args.number c.leave.new.self rest s) same
    (c.in_ok-leave-in-Ret.ensures.finds a next leads c.args.act.line rest s)

pub returns-in-After-clause-finds : goal.returns-in-After-clause-finds
returns-in-After-clause-finds c = λ a next leads rest s.
    finds-after c.args.control.now c.args.task a c.args.number c.args.self.now.from c.in-After.commands c.max-self.result c.args.act c.args.self.now.entered.items rest s c.args.self.now.spans.items next c.in-After.is
    c.max-self.ensures

pub returns-in-Raise-clause-finds : goal.returns-in-Raise-clause-finds
returns-in-Raise-clause-finds c = λ a next leads rest s.
    finds-other c.args.control.now c.args.task a c.args.number c.args.self.now.from c.args.act c.args.self.now.entered.items rest s c.args.self.now.spans.items next c.in-Raise.is
