use Rattle.std.proofs.Common.{◌<◌, ap, ◌∙◌, length, map, refl, arith}
use Rattle.std.proofs.lemmas.List.{length-map}
use Rattle.site_set.specs.Edits.{plain_edit}
use Rattle.ft_desk.specs.DeskView.{DeskView, carried_out}
use Rattle.ft_desk.specs.Users.{edited_user, spec_by, user_of}
use Rattle.ft_desk.specs.Commands.{edit_command}
use Rattle.ft_desk.specs.Plans.{plain_plan}
use Rattle.ft_desk.proofs.DeskInvariantLaws.{kept-still}
use Rattle.ft_desk.proofs.EditViews.{edit-seen}
use Rattle.ft_desk.proofs.desk.Desk.edit.Goals as goal

pub invariant_of-self : goal.invariant_of-self
invariant_of-self c =
    let within : c.args.user.0 < length c.self.inside.roster.users = (let h = c.requires.user in let e = ap (λ (s : DeskView). length s.declared.specs) c.self.view_is in
    let n = length-map c.self.inside.roster.users spec_by in omega (arith, h, e, n)) in
    kept-still c.self.inside _ c.args.user.0 (edited_user c.args.half (plain_edit c.args.edit.now) (user_of c.self.inside.roster.users c.args.user.0)) c.self.invariant within
    (record { registered = refl; slot = refl; reg = refl }) c.edit.ensures.users c.edit.ensures.funcs refl refl refl
    (c.rewrite.ensures.room ∙ c.edit.ensures.capacity ∙ c.begin.ensures.room) c.begin.ensures.commands

pub returns : goal.returns
returns c =
    let within : c.args.user.0 < length c.self.inside.roster.users = (let h = c.requires.user in let e = ap (λ (s : DeskView). length s.declared.specs) c.self.view_is in
    let n = length-map c.self.inside.roster.users spec_by in omega (arith, h, e, n)) in
    edit-seen c.self.inside.roster.users c.edit.new.self.users c.self.inside.roster.funcs c.edit.new.self.funcs (length c.self.inside.pids.pids) (length c.self.inside.slots)
    c.self.inside.pids.pids c.self.inside.pids.nopids c.self.inside.depth (map (λ v. v.0) c.self.inside.order.items) c.self.inside.commands c.begin.new.commands
    (plain_plan c.self.inside.plan) (plain_plan c.begin.new.plan) (plain_plan c.rewrite.new.self) c.edit.new.sites.items c.args.user.0 c.args.half (plain_edit c.args.edit.now)
    c.user.result.now within c.edit.ensures.sized c.edit.ensures.users c.edit.ensures.funcs c.begin.ensures.commands c.begin.ensures.plan c.user.ensures.user
    c.edit.ensures.sites c.rewrite.ensures.registered c.rewrite.ensures.unregistered
    ∙ ap (λ (s : DeskView). carried_out s (edit_command c.args.user.0 c.args.half (plain_edit c.args.edit.now))) c.self.view_is
