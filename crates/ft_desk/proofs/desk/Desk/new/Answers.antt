use Rattle.std.proofs.Common.{sym, ap, ◌∙◌, length, map}
use Rattle.pid_filter.specs.Lists.{PidLists}
use Rattle.ft_base.specs.declared.number.UserNo.{UserNo}
use Rattle.ft_desk.specs.Plans.{plain_plan}
use Rattle.ft_desk.proofs.NewViews.{new-desk, new-seen}
use Rattle.ft_desk.proofs.desk.Desk.new.Goals as goal

pub invariant_of-result : goal.invariant_of-result
invariant_of-result c =
    new-desk c.args.shape.funcs _ c.args.specs.now c.args.shape.tramps c.in_ok-roster.ensures.users c.in_ok-roster.ensures.funcs c.new-3.ensures.free
    c.in_ok-order.ensures.empty c.in_ok-order.ensures.room c.in_ok-plan.ensures.room
    (ap (λ (l : PidLists). length l.nopids) c.new-4.ensures.lists ∙ sym (ap (λ (l : PidLists). length l.pids) c.new-4.ensures.lists))

pub returns : goal.returns
returns c =
    new-seen c.args.shape.funcs c.in_ok-roster.roster.users c.args.specs.now c.in_ok-roster.roster.funcs c.args.shape.tasks c.args.shape.tramps (length c.new-3.result)
    c.new-4.result.pids c.new-4.result.nopids (map (λ v. v.0) c.in_ok-order.order.items) (plain_plan c.in_ok-plan.plan)
    c.in_ok-roster.ensures.users c.in_ok-roster.ensures.funcs (ap (λ (l : PidLists). l.pids) c.new-4.ensures.lists) (ap (λ (l : PidLists). l.nopids) c.new-4.ensures.lists)
    c.new-3.ensures.size (ap (map (λ (v : UserNo). v.0)) c.in_ok-order.ensures.empty) c.in_ok-plan.ensures.plan
