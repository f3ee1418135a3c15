use Rattle.std.proofs.Common.{◌≡◌, ap, ◌∙◌, arith, length}
use Rattle.ft_desk.specs.Rosters.{Users}
use Rattle.ft_base.specs.Desk.{target}
use Rattle.ft_desk.specs.Users.{desk_by}
use Rattle.ft_desk.proofs.RosterInvariantLaws.{ran-here, tells-here}
use Rattle.ft_desk.proofs.roster.Roster.ran.Goals as goal

pub ran_by-requires : goal.ran_by-requires
ran_by-requires c =
    let e : length c.self.inside.counts ≡ c.args.self.now.funcs = ap (λ (s : Users). s.funcs) c.self.view_is in
    tells-here c.self.inside c.self.invariant c.as_slice.result.now c.args.f.0 c.index.result.now c.row.result (let h = c.requires in omega (arith, e, h))
    c.as_slice.ensures.value c.row.ensures c.index.ensures

pub returns : goal.returns
returns c =
    let e : length c.self.inside.counts ≡ c.args.self.now.funcs = ap (λ (s : Users). s.funcs) c.self.view_is in
    c.ran_by.ensures ∙ ran-here c.self.inside c.self.invariant c.as_slice.result.now c.args.f.0 c.index.result.now c.row.result (let h = c.requires in omega (arith, e, h))
    c.as_slice.ensures.value c.row.ensures c.index.ensures
    ∙ ap (λ (s : Users). target (desk_by s.users) c.args.f.0) c.self.view_is
