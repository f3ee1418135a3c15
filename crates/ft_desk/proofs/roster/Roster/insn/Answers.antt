use Rattle.std.proofs.Common.{◌≡◌, ap, ◌∙◌, arith, length}
use Rattle.ft_desk.specs.Rosters.{Users}
use Rattle.word_map.specs.Instructions.{insn_at}
use Rattle.ft_desk.specs.Users.{desk_by}
use Rattle.ft_desk.proofs.RosterInvariantLaws.{insn-here, tells-here}
use Rattle.ft_desk.proofs.roster.Roster.insn.Goals as goal

pub insn_by-requires : goal.insn_by-requires
insn_by-requires c =
    let e : length c.self.inside.counts ≡ c.args.self.now.funcs = ap (λ (s : Users). s.funcs) c.self.view_is in
    tells-here c.self.inside c.self.invariant c.as_slice.result.now c.args.f.0 c.index.result.now c.row.result (let h = c.requires in omega (arith, e, h))
    c.as_slice.ensures.value c.row.ensures c.index.ensures

pub returns : goal.returns
returns c =
    let e : length c.self.inside.counts ≡ c.args.self.now.funcs = ap (λ (s : Users). s.funcs) c.self.view_is in
    c.insn_by.ensures ∙ insn-here c.self.inside c.self.invariant c.as_slice.result.now c.args.f.0 c.index.result.now c.row.result (let h = c.requires in omega (arith, e, h))
    c.as_slice.ensures.value c.row.ensures c.index.ensures
    ∙ ap (λ (s : Users). insn_at (desk_by s.users) c.args.f.0) c.self.view_is
