use Rattle.std.proofs.Common.{◌<◌, arith, ap, get_or, ◌∙◌, length, false}
use Rattle.site_set.proofs.PackedLemmas.{word_within, length-marks_of, holds-read}
use Rattle.site_set.proofs.sets.SiteSet.contains.Goals as goal

pub index-requires : goal.index-requires
index-requires c =
    let s = c.self.inside in
    let below : c.args.f < s.size = omega (arith, length-marks_of s.size s.words.items, ap length c.self.view_is) in
    omega (arith, word_within s.size c.args.f _ c.self.invariant.count below, s.words.ok.0)

pub returns : goal.returns
returns c =
    let s = c.self.inside in
    let below : c.args.f < s.size = omega (arith, length-marks_of s.size s.words.items, ap length c.self.view_is) in
    holds-read s.size c.args.f s.words.items _ c.self.invariant below c.index.ensures ∙ ap (λ m. get_or m c.args.f false) c.self.view_is
