use Rattle.std.proofs.Common.{◌≡◌, ℕ, ◌<◌, false, List, Option, Some, sym, ap, ◌∙◌, subst, length, map, set, refl, arith}
use Rattle.std.specs.Prelude.{IfSome, IfNone}
use Rattle.std.proofs.lemmas.List.{length-map}
use Rattle.ft_base.specs.declared.number.UserNo.{UserNo}
use Rattle.ft_base.specs.Job.{Register}
use Rattle.ft_base.specs.Desk.{user_at}
use Rattle.tramp_slots.specs.Holders.{IsLowestFree}
use Rattle.ft_desk.specs.declared.user.User.{User}
use Rattle.ft_desk.specs.Plans.{first_of, plain_plan}
use Rattle.ft_desk.specs.DeskView.{DeskView, carried_out}
use Rattle.ft_desk.specs.Users.{spec_by, user_of}
use Rattle.ft_desk.proofs.SumLaws.{user_at-is}
use Rattle.ft_desk.proofs.DeskMoves.{filter-room, kept-enrolled}
use Rattle.ft_desk.proofs.EnrollViews.{enroll-seen}
use Rattle.ft_desk.proofs.desk.Desk.register.Goals as goal

pub push_first-requires : goal.push_first-requires
push_first-requires c =
    let within : c.args.user.0 < length c.self.inside.roster.users = (let h = c.requires.user in let e = ap (λ (s : DeskView). length s.declared.specs) c.self.view_is in
    let n = length-map c.self.inside.roster.users spec_by in omega (arith, h, e, n)) in
    let off : (user_of c.self.inside.roster.users c.args.user.0).registered ≡ false =
    sym (ap (λ s. s.registered) (user_at-is c.self.inside.roster.users c.args.user.0)) ∙ ap (λ (s : DeskView). (user_at s.state c.args.user.0).registered) c.self.view_is ∙ c.requires.unregistered in
    let room = filter-room (λ (x : User). x.registered) c.self.inside.roster.users c.args.user.0 within off in
    let size = c.self.invariant.listed.size in
    let most = c.self.invariant.list_room in
    let long = c.self.inside.order.ok.0 in
    omega (arith, room, size, most, long)

pub invariant_of-self : goal.invariant_of-self
invariant_of-self c =
    let within : c.args.user.0 < length c.self.inside.roster.users = (let h = c.requires.user in let e = ap (λ (s : DeskView). length s.declared.specs) c.self.view_is in
    let n = length-map c.self.inside.roster.users spec_by in omega (arith, h, e, n)) in
    let off : (user_of c.self.inside.roster.users c.args.user.0).registered ≡ false =
    sym (ap (λ s. s.registered) (user_at-is c.self.inside.roster.users c.args.user.0)) ∙ ap (λ (s : DeskView). (user_at s.state c.args.user.0).registered) c.self.view_is ∙ c.requires.unregistered in
    kept-enrolled c.self.inside _ c.self.invariant c.args.user c.begin.new.commands c.take-slot.result within off c.register.ensures.users c.register.ensures.funcs
    (λ s e. (let l = subst (λ (o : Option ℕ). IfSome o (IsLowestFree c.self.inside.slots)) e c.take-slot.ensures.least in
    (l.within, l.free, subst (λ (o : Option ℕ). IfSome o (λ t. c.take-slot.new.self ≡ set c.self.inside.slots t (Some c.args.user))) e c.take-slot.ensures.taken)))
    (λ e. subst (λ (o : Option ℕ). IfNone o (c.take-slot.new.self ≡ c.self.inside.slots)) e c.take-slot.ensures.refused)
    c.push_first.ensures.items c.push_first.ensures.room refl (c.enroll.ensures.room ∙ c.register.ensures.capacity ∙ c.begin.ensures.room) c.begin.ensures.commands

pub returns : goal.returns
returns c =
    let within : c.args.user.0 < length c.self.inside.roster.users = (let h = c.requires.user in let e = ap (λ (s : DeskView). length s.declared.specs) c.self.view_is in
    let n = length-map c.self.inside.roster.users spec_by in omega (arith, h, e, n)) in
    enroll-seen c.self.inside.roster.users c.register.new.self.users c.self.inside.roster.funcs c.register.new.self.funcs (length c.self.inside.pids.pids)
    c.self.inside.slots c.take-slot.new.self c.self.inside.pids.pids c.self.inside.pids.nopids c.self.inside.depth
    (map (λ v. v.0) c.self.inside.order.items) (map (λ v. v.0) c.push_first.new.order.items) c.self.inside.commands c.begin.new.commands
    (plain_plan c.self.inside.plan) (plain_plan c.begin.new.plan) (plain_plan c.enroll.new.self) c.register.new.sites.items c.args.user.0 c.take-slot.result c.user.result.now
    c.first_in-first.result within c.self.invariant.slots c.take-slot.ensures.slot c.register.ensures.users c.register.ensures.funcs c.take-slot.ensures.size
    c.begin.ensures.commands c.begin.ensures.plan c.user.ensures.user (ap (map (λ (v : UserNo). v.0)) c.push_first.ensures.items)
    (c.first_in-first.ensures ∙ ap (λ (o : List UserNo). first_of (map (λ (v : UserNo). v.0) o)) c.as_slice.ensures.value)
    c.register.ensures.sites c.enroll.ensures.plan
    ∙ ap (λ (s : DeskView). carried_out s (Register c.args.user.0)) c.self.view_is
