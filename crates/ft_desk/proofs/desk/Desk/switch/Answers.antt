use Rattle.std.proofs.Common.{◌<◌, ap, ◌∙◌, length, map, refl, arith}
use Rattle.std.proofs.lemmas.List.{length-map}
use Rattle.ft_desk.specs.declared.user.User.{User}
use Rattle.ft_desk.specs.Commands.{switch_command}
use Rattle.word_map.specs.Contents.{digit, sel_of}
use Rattle.ft_desk.specs.Plans.{plain_plan}
use Rattle.ft_desk.specs.DeskView.{DeskView, carried_out}
use Rattle.ft_desk.specs.Users.{spec_by, state_of, switched, user_of}
use Rattle.ft_desk.proofs.DeskInvariantLaws.{kept-still}
use Rattle.ft_desk.proofs.DeskViewLaws.{switch-seen}
use Rattle.ft_desk.proofs.desk.Desk.switch.Goals as goal

pub invariant_of-self : goal.invariant_of-self
invariant_of-self c =
    let within : c.args.user.0 < length c.self.inside.roster.users = (let h = c.requires.user in let e = ap (λ (s : DeskView). length s.declared.specs) c.self.view_is in
    let n = length-map c.self.inside.roster.users spec_by in omega (arith, h, e, n)) in
    kept-still c.self.inside _ c.args.user.0 (switched c.args.enabled (user_of c.self.inside.roster.users c.args.user.0)) c.self.invariant within
    (record { registered = refl; slot = refl; reg = refl }) c.switch.ensures.users c.switch.ensures.funcs refl refl refl c.begin.ensures.room c.begin.ensures.commands

pub returns : goal.returns
returns c =
    let within : c.args.user.0 < length c.self.inside.roster.users = (let h = c.requires.user in let e = ap (λ (s : DeskView). length s.declared.specs) c.self.view_is in
    let n = length-map c.self.inside.roster.users spec_by in omega (arith, h, e, n)) in
    switch-seen c.self.inside.roster.users c.self.inside.roster.funcs c.switch.new.self.funcs (length c.self.inside.pids.pids) (length c.self.inside.slots)
    c.self.inside.pids.pids c.self.inside.pids.nopids c.self.inside.depth (map (λ v. v.0) c.self.inside.order.items) c.self.inside.commands c.begin.new.commands
    (plain_plan c.self.inside.plan) (plain_plan c.begin.new.plan) c.args.user.0 c.args.enabled c.switch.new.self.users c.sel.result within
    c.switch.ensures.users c.switch.ensures.funcs c.begin.ensures.commands c.begin.ensures.plan
    (c.sel.ensures ∙ ap (λ (x : User). sel_of (state_of x) (digit x.second)) c.user.ensures.user)
    ∙ ap (λ (s : DeskView). carried_out s (switch_command c.args.user.0 c.args.enabled)) c.self.view_is
