use Rattle.std.proofs.Common.{◌≡◌, refl, ap, ◌∙◌, arith, length}
use Rattle.ft_desk.specs.Rosters.{Users}
use Rattle.word_map.specs.Instructions.{insn_at}
use Rattle.ft_desk.specs.Users.{desk_by, switched}
use Rattle.ft_desk.proofs.EditLaws.{switch-kept, switch-sites}
use Rattle.ft_desk.proofs.roster.Roster.switch.Goals as goal

pub invariant_of-self : goal.invariant_of-self
invariant_of-self c =
    let e : length c.self.inside.users.items ≡ length c.args.self.now.users = ap (λ (s : Users). length s.users) c.self.view_is in
    switch-kept c.self.inside c.self.invariant c.args.user.0 c.index_mut.result.now (switched c.args.enabled c.index_mut.result.now)
    (let h = c.requires.user in omega (arith, e, h)) c.index_mut.ensures.value c.args.enabled refl _ refl refl refl refl refl

pub returns-clause-sites : goal.returns-clause-sites
returns-clause-sites c = λ f.
    (let e : length c.self.inside.users.items ≡ length c.args.self.now.users = ap (λ (s : Users). length s.users) c.self.view_is in
    switch-sites c.self.inside c.self.invariant c.args.user.0 c.index_mut.result.now (switched c.args.enabled c.index_mut.result.now)
    (let h = c.requires.user in omega (arith, e, h)) c.index_mut.ensures.value c.args.enabled refl f
    ∙ ap (λ (s : Users). insn_at (desk_by s.users) f) c.self.view_is)
