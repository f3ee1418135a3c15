use Rattle.std.proofs.Common.{◌≡◌, sym, subst, Bool, Some, None, IfOk, if◌then◌else◌}
use Rattle.ft_base.specs.declared.item.Item.{Item}
use Rattle.ft_hist.specs.Plain.{after_item}
use Rattle.history_check.proofs.run.TaskRun.take.Goals as goal

pub returns-in-Enter : goal.returns-in-Enter
returns-in-Enter c = λ job is.
    subst (λ (i : Item). IfOk c.enter.result (λ (b : Bool). after_item job c.args.returned c.args.self.now i ≡ (if b then Some c.enter.new.self else None)))
    (sym c.in-Enter.is) (c.enter.ensures job)

pub returns-in-Leave : goal.returns-in-Leave
returns-in-Leave c = λ job is.
    subst (λ (i : Item). IfOk c.leave.result (λ (b : Bool). after_item job c.args.returned c.args.self.now i ≡ (if b then Some c.leave.new.self else None)))
    (sym c.in-Leave.is) (c.leave.ensures job)

pub returns-in-Ret : goal.returns-in-Ret
returns-in-Ret c = λ job is.
    subst (λ (i : Item). after_item job c.args.returned c.args.self.now i ≡ (if c.ret.result then Some c.ret.new.self else None))
    (sym c.in-Ret.is) (c.ret.ensures job c.args.returned)
