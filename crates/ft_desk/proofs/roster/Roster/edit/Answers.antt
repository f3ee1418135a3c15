use Rattle.std.proofs.Common.{◌≡◌, refl, ap, ◌∙◌, set, arith, length}
use Rattle.site_set.specs.Edits.{plain_edit}
use Rattle.ft_desk.specs.Rosters.{Users}
use Rattle.word_map.specs.Instructions.{insn_at}
use Rattle.ft_desk.specs.Sites.{changed_sites}
use Rattle.ft_desk.specs.Users.{desk_by}
use Rattle.ft_desk.proofs.StepLaws.{IsStep, step-moves, step-sites, step-kept}
use Rattle.ft_desk.proofs.EditLaws.{edit-step, edit-size}
use Rattle.ft_desk.proofs.roster.Roster.edit.Goals as goal

pub reach_of-requires-3 : goal.reach_of-requires-3
reach_of-requires-3 c =
    let e : length c.self.inside.users.items ≡ length c.args.self.now.users = ap (λ (s : Users). length s.users) c.self.view_is in
    edit-size c.self.inside c.self.invariant c.args.user.0 c.args.half (plain_edit c.args.edit.now) c.index.result.now c.index-2.result.now c.index-3.result.now
    c.index_mut.result.now c.edit.new.self c.index-4.result.now c.reach_of.new.out c.reach_of-2.new.out c.reach_of.new.out c.reach_of.new.out c.reach_of.new.out
    (let h = c.requires.user in omega (arith, e, h)) c.index.ensures c.index-2.ensures c.index-3.ensures c.index_mut.ensures.value c.edit.ensures c.index-4.ensures

pub resite-requires-clause-moves : goal.resite-requires-clause-moves
resite-requires-clause-moves c =
    let e : length c.self.inside.users.items ≡ length c.args.self.now.users = ap (λ (s : Users). length s.users) c.self.view_is in
    let s : IsStep c.self.inside c.args.user.0 c.edit.new.self c.subtract-2.new.self c.subtract.new.self c.as_slice.result.now =
    edit-step c.self.inside c.self.invariant c.args.user.0 c.args.half (plain_edit c.args.edit.now) c.index.result.now c.index-2.result.now c.index-3.result.now
    c.index_mut.result.now c.edit.new.self c.index-4.result.now c.reach_of.new.out c.reach_of-2.new.out c.reach_of-3.new.out c.subtract-2.new.self c.subtract.new.self
    (let h = c.requires.user in omega (arith, e, h)) c.index.ensures c.index-2.ensures c.index-3.ensures c.index_mut.ensures.value c.edit.ensures c.index-4.ensures
    c.reach_of.ensures.members c.reach_of-2.ensures.members c.reach_of-3.ensures.members c.reach_of.ensures.size c.reach_of-3.ensures.size
    c.subtract.ensures.members c.subtract-2.ensures.members c.as_slice.result.now c.as_slice.ensures.value in
    step-moves c.self.inside c.self.invariant c.args.user.0 c.edit.new.self c.subtract-2.new.self c.subtract.new.self c.as_slice.result.now s c.as_mut_slice.result.now c.as_mut_slice.ensures.value

pub invariant_of-self : goal.invariant_of-self
invariant_of-self c =
    let e : length c.self.inside.users.items ≡ length c.args.self.now.users = ap (λ (s : Users). length s.users) c.self.view_is in
    let s : IsStep c.self.inside c.args.user.0 c.edit.new.self c.subtract-2.new.self c.subtract.new.self c.as_slice.result.now =
    edit-step c.self.inside c.self.invariant c.args.user.0 c.args.half (plain_edit c.args.edit.now) c.index.result.now c.index-2.result.now c.index-3.result.now
    c.index_mut.result.now c.edit.new.self c.index-4.result.now c.reach_of.new.out c.reach_of-2.new.out c.reach_of-3.new.out c.subtract-2.new.self c.subtract.new.self
    (let h = c.requires.user in omega (arith, e, h)) c.index.ensures c.index-2.ensures c.index-3.ensures c.index_mut.ensures.value c.edit.ensures c.index-4.ensures
    c.reach_of.ensures.members c.reach_of-2.ensures.members c.reach_of-3.ensures.members c.reach_of.ensures.size c.reach_of-3.ensures.size
    c.subtract.ensures.members c.subtract-2.ensures.members c.as_slice.result.now c.as_slice.ensures.value in
    step-kept c.self.inside c.self.invariant c.args.user.0 c.edit.new.self c.subtract-2.new.self c.subtract.new.self c.as_slice.result.now s c.as_mut_slice.result.now c.as_mut_slice.ensures.value
    _ c.index_mut-2.result.now c.resite.new.holder c.resite.new.totals refl c.resite.ensures.size c.resite.ensures.rows refl c.resite.auto.totals c.resite.ensures.totals
    refl c.index_mut-2.ensures.value c.resite.ensures.holder c.resite.ensures.on
    (record { trial = c.self.invariant.room.trial; came = s.move.came_size; left = s.move.left_size; reach = c.reach_of-2.ensures.size ∙ c.self.invariant.room.reach })

pub returns-clause-sites : goal.returns-clause-sites
returns-clause-sites c =
    let e : length c.self.inside.users.items ≡ length c.args.self.now.users = ap (λ (s : Users). length s.users) c.self.view_is in
    let s : IsStep c.self.inside c.args.user.0 c.edit.new.self c.subtract-2.new.self c.subtract.new.self c.as_slice.result.now =
    edit-step c.self.inside c.self.invariant c.args.user.0 c.args.half (plain_edit c.args.edit.now) c.index.result.now c.index-2.result.now c.index-3.result.now
    c.index_mut.result.now c.edit.new.self c.index-4.result.now c.reach_of.new.out c.reach_of-2.new.out c.reach_of-3.new.out c.subtract-2.new.self c.subtract.new.self
    (let h = c.requires.user in omega (arith, e, h)) c.index.ensures c.index-2.ensures c.index-3.ensures c.index_mut.ensures.value c.edit.ensures c.index-4.ensures
    c.reach_of.ensures.members c.reach_of-2.ensures.members c.reach_of-3.ensures.members c.reach_of.ensures.size c.reach_of-3.ensures.size
    c.subtract.ensures.members c.subtract-2.ensures.members c.as_slice.result.now c.as_slice.ensures.value in
    step-sites c.self.inside c.self.invariant c.args.user.0 c.edit.new.self c.subtract-2.new.self c.subtract.new.self c.as_slice.result.now s c.as_mut_slice.result.now c.as_mut_slice.ensures.value
    c.resite.new.sites.items c.resite.ensures.sites
    ∙ ap (λ (s : Users). changed_sites (insn_at (desk_by s.users)) (insn_at (desk_by (set c.self.inside.users.items c.args.user.0 c.edit.new.self))) 0 s.funcs) c.self.view_is
