use Rattle.std.proofs.Common.{ap, ◌∙◌, length, map}
use Rattle.ft_base.specs.Marks.{Marks}
use Rattle.ft_base.specs.Job.{Pid}
use Rattle.pid_filter.specs.Lists.{tasks_in}
use Rattle.ft_desk.specs.declared.user.User.{User}
use Rattle.word_map.specs.Contents.{digit}
use Rattle.ft_desk.specs.Plans.{plain_plan}
use Rattle.ft_desk.specs.DeskView.{DeskView, carried_out}
use Rattle.ft_desk.specs.DeskInvariant.{desk_view}
use Rattle.ft_desk.proofs.DeskViewLaws.{pids-seen}
use Rattle.ft_desk.proofs.desk.Desk.set_pids.Goals as goal

pub returns : goal.returns
returns c =
    pids-seen c.self.inside.roster.users c.self.inside.roster.funcs (length c.self.inside.slots) c.self.inside.pids.pids c.self.inside.pids.nopids
    c.set.new.self.pids c.set.new.self.nopids c.self.inside.depth (map (λ (x : User). digit x.second) c.self.inside.roster.users) (map (λ v. v.0) c.self.inside.order.items)
    c.self.inside.commands c.begin.new.commands (plain_plan c.self.inside.plan) (plain_plan c.begin.new.plan) c.mask.result c.set.ensures.size c.begin.ensures.commands c.begin.ensures.plan
    c.mask.ensures.tasks c.mask.ensures.others c.set.ensures.nopids
    ∙ ap (λ (p : Marks). carried_out (desk_view c.self.inside) (Pid p)) (c.set.ensures.pids)
    ∙ ap (λ (s : DeskView). carried_out s (Pid (tasks_in s.declared.tasks c.args.mask))) c.self.view_is
