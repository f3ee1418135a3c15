use Rattle.std.proofs.Common.{◌≡◌, ℕ, ◌<◌, true, Option, None, subst, sym, ap, ◌∙◌, length, map, set, refl, arith}
use Rattle.std.proofs.lemmas.List.{length-map}
use Rattle.ft_base.specs.declared.number.UserNo.{UserNo}
use Rattle.ft_base.specs.Job.{Unregister}
use Rattle.ft_desk.specs.Plans.{plain_plan}
use Rattle.ft_desk.specs.DeskView.{DeskView, carried_out}
use Rattle.std.specs.Prelude.{IfSome, IfNone}
use Rattle.ft_base.specs.Desk.{user_at}
use Rattle.ft_desk.specs.declared.user.User.{User}
use Rattle.ft_desk.specs.Users.{spec_by, user_of}
use Rattle.ft_desk.proofs.SumLaws.{user_at-is}
use Rattle.ft_desk.proofs.DeskMoves.{kept-retired}
use Rattle.ft_desk.proofs.EnrollViews.{numbers-without, retire-seen}
use Rattle.ft_desk.proofs.desk.Desk.unregister.Goals as goal

pub invariant_of-self : goal.invariant_of-self
invariant_of-self c =
    let within : c.args.user.0 < length c.self.inside.roster.users = (let h = c.requires.user in let e = ap (λ (s : DeskView). length s.declared.specs) c.self.view_is in
    let n = length-map c.self.inside.roster.users spec_by in omega (arith, h, e, n)) in
    let there : (user_of c.self.inside.roster.users c.args.user.0).registered ≡ true =
    sym (ap (λ s. s.registered) (user_at-is c.self.inside.roster.users c.args.user.0)) ∙ ap (λ (s : DeskView). (user_at s.state c.args.user.0).registered) c.self.view_is ∙ c.requires.registered in
    kept-retired c.self.inside _ c.self.invariant c.args.user c.user.result.now.slot within there (ap (λ (x : User). x.slot) c.user.ensures.user)
    c.unregister.ensures.users c.unregister.ensures.funcs
    (λ s e. subst (λ (o : Option ℕ). IfSome o (λ t. c.give_back.new.slots ≡ set c.self.inside.slots t None)) e c.give_back.ensures.some)
    (λ e. subst (λ (o : Option ℕ). IfNone o (c.give_back.new.slots ≡ c.self.inside.slots)) e c.give_back.ensures.none)
    c.unlink-before.ensures.order c.unlink-before.ensures.capacity refl (c.retire.ensures.room ∙ c.unregister.ensures.capacity ∙ c.begin.ensures.room) c.begin.ensures.commands

pub returns : goal.returns
returns c =
    let within : c.args.user.0 < length c.self.inside.roster.users = (let h = c.requires.user in let e = ap (λ (s : DeskView). length s.declared.specs) c.self.view_is in
    let n = length-map c.self.inside.roster.users spec_by in omega (arith, h, e, n)) in
    retire-seen c.self.inside.roster.users c.unregister.new.self.users c.self.inside.roster.funcs c.unregister.new.self.funcs (length c.self.inside.pids.pids)
    (length c.self.inside.slots) (length c.give_back.new.slots) c.self.inside.pids.pids c.self.inside.pids.nopids c.self.inside.depth
    (map (λ v. v.0) c.self.inside.order.items) (map (λ v. v.0) c.unlink-before.new.order.items) c.self.inside.commands c.begin.new.commands
    (plain_plan c.self.inside.plan) (plain_plan c.begin.new.plan) (plain_plan c.retire.new.self) c.unregister.new.sites.items c.args.user.0 c.user.result.now c.user-2.result.now
    c.unlink-before.result.0 c.unlink-before.result.1 within c.unregister.ensures.users c.unregister.ensures.funcs c.give_back.ensures.size
    c.begin.ensures.commands c.begin.ensures.plan c.user.ensures.user c.user-2.ensures.user
    (ap (map (λ (v : UserNo). v.0)) c.unlink-before.ensures.order ∙ numbers-without c.args.user.0 c.self.inside.order.items)
    c.unlink-before.ensures.before c.unlink-before.ensures.after c.unregister.ensures.sites c.retire.ensures.plan
    ∙ ap (λ (s : DeskView). carried_out s (Unregister c.args.user.0)) c.self.view_is
