use Rattle.std.proofs.Common.{◌<◌, arith, ap, set, ◌∙◌, length, true}
use Rattle.site_set.proofs.PackedLemmas.{word_within, length-marks_of, IsPacked-added, marks_of-added}
use Rattle.site_set.proofs.sets.SiteSet.add.Goals as goal

pub index_mut-requires : goal.index_mut-requires
index_mut-requires c =
    let s = c.self.inside in
    let below : c.args.f < s.size = omega (arith, length-marks_of s.size s.words.items, ap length c.self.view_is) in
    omega (arith, word_within s.size c.args.f _ c.self.invariant.count below, s.words.ok.0)

pub invariant_of-self : goal.invariant_of-self
invariant_of-self c =
    let s = c.self.inside in
    let below : c.args.f < s.size = omega (arith, length-marks_of s.size s.words.items, ap length c.self.view_is) in
    IsPacked-added s.size c.args.f s.words.items _ c.self.invariant below c.index_mut.ensures.value

pub returns-clause-members : goal.returns-clause-members
returns-clause-members c =
    let s = c.self.inside in
    let below : c.args.f < s.size = omega (arith, length-marks_of s.size s.words.items, ap length c.self.view_is) in
    marks_of-added s.size c.args.f s.words.items _ c.self.invariant below c.index_mut.ensures.value ∙ ap (λ m. set m c.args.f true) c.self.view_is
