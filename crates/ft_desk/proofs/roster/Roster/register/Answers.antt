use Rattle.std.proofs.Common.{◌≡◌, refl, ap, ◌∙◌, set, arith, length}
use Rattle.ft_desk.specs.Rosters.{Users}
use Rattle.word_map.specs.Instructions.{insn_at}
use Rattle.ft_desk.specs.Sites.{changed_sites}
use Rattle.ft_desk.specs.Users.{desk_by, user_of}
use Rattle.ft_desk.proofs.StepLaws.{IsStep, enroll-step, step-moves, step-sites, step-kept}
use Rattle.ft_desk.proofs.roster.Roster.register.Goals as goal

pub resite-requires-clause-moves : goal.resite-requires-clause-moves
resite-requires-clause-moves c =
    let e : length c.self.inside.users.items ≡ length c.args.self.now.users = ap (λ (s : Users). length s.users) c.self.view_is in
    let s : IsStep c.self.inside c.args.user.0 c.enroll.new.self c.matched_into.new.out c.clear.new.self c.as_slice.result.now =
    enroll-step c.self.inside c.self.invariant c.args.user.0 c.args.since c.args.slot c.index_mut.result.now c.enroll.new.self c.index.result.now
    c.matched_into.new.out c.clear.new.self (let h = c.requires.user in omega (arith, e, h)) c.index_mut.ensures.value c.enroll.ensures c.index.ensures
    (ap (λ (s : Users). (user_of s.users c.args.user.0).registered) c.self.view_is ∙ c.requires.unregistered)
    c.matched_into.ensures.members c.matched_into.ensures.size c.clear.ensures.members c.as_slice.result.now c.as_slice.ensures.value in
    step-moves c.self.inside c.self.invariant c.args.user.0 c.enroll.new.self c.matched_into.new.out c.clear.new.self c.as_slice.result.now s c.as_mut_slice.result.now c.as_mut_slice.ensures.value

pub invariant_of-self : goal.invariant_of-self
invariant_of-self c =
    let e : length c.self.inside.users.items ≡ length c.args.self.now.users = ap (λ (s : Users). length s.users) c.self.view_is in
    let s : IsStep c.self.inside c.args.user.0 c.enroll.new.self c.matched_into.new.out c.clear.new.self c.as_slice.result.now =
    enroll-step c.self.inside c.self.invariant c.args.user.0 c.args.since c.args.slot c.index_mut.result.now c.enroll.new.self c.index.result.now
    c.matched_into.new.out c.clear.new.self (let h = c.requires.user in omega (arith, e, h)) c.index_mut.ensures.value c.enroll.ensures c.index.ensures
    (ap (λ (s : Users). (user_of s.users c.args.user.0).registered) c.self.view_is ∙ c.requires.unregistered)
    c.matched_into.ensures.members c.matched_into.ensures.size c.clear.ensures.members c.as_slice.result.now c.as_slice.ensures.value in
    step-kept c.self.inside c.self.invariant c.args.user.0 c.enroll.new.self c.matched_into.new.out c.clear.new.self c.as_slice.result.now s c.as_mut_slice.result.now c.as_mut_slice.ensures.value
    _ c.index_mut-2.result.now c.resite.new.holder c.resite.new.totals refl c.resite.ensures.size c.resite.ensures.rows refl c.resite.auto.totals c.resite.ensures.totals
    refl c.index_mut-2.ensures.value c.resite.ensures.holder c.resite.ensures.on
    (record { trial = c.self.invariant.room.trial; came = s.move.came_size; left = s.move.left_size; reach = c.self.invariant.room.reach })

pub returns-clause-sites : goal.returns-clause-sites
returns-clause-sites c =
    let e : length c.self.inside.users.items ≡ length c.args.self.now.users = ap (λ (s : Users). length s.users) c.self.view_is in
    let s : IsStep c.self.inside c.args.user.0 c.enroll.new.self c.matched_into.new.out c.clear.new.self c.as_slice.result.now =
    enroll-step c.self.inside c.self.invariant c.args.user.0 c.args.since c.args.slot c.index_mut.result.now c.enroll.new.self c.index.result.now
    c.matched_into.new.out c.clear.new.self (let h = c.requires.user in omega (arith, e, h)) c.index_mut.ensures.value c.enroll.ensures c.index.ensures
    (ap (λ (s : Users). (user_of s.users c.args.user.0).registered) c.self.view_is ∙ c.requires.unregistered)
    c.matched_into.ensures.members c.matched_into.ensures.size c.clear.ensures.members c.as_slice.result.now c.as_slice.ensures.value in
    step-sites c.self.inside c.self.invariant c.args.user.0 c.enroll.new.self c.matched_into.new.out c.clear.new.self c.as_slice.result.now s c.as_mut_slice.result.now c.as_mut_slice.ensures.value
    c.resite.new.sites.items c.resite.ensures.sites
    ∙ ap (λ (s : Users). changed_sites (insn_at (desk_by s.users)) (insn_at (desk_by (set c.self.inside.users.items c.args.user.0 c.enroll.new.self))) 0 s.funcs) c.self.view_is
