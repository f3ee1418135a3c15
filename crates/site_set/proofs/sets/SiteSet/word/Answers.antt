use Rattle.std.proofs.Common.{◌<◌, ◌^◌, ◌==◌, ap, ◌∙◌, arith, length}
use Rattle.std.specs.Int.{bit_at}
use Rattle.site_set.proofs.MarksLemmas.{bit_at-word_of}
use Rattle.site_set.proofs.PackedLemmas.{length-marks_of}
use Rattle.site_set.proofs.WordLemmas.{word_of-read}
use Rattle.site_set.proofs.sets.SiteSet.word.Goals as goal

pub index-requires : goal.index-requires
index-requires c =
    let s = c.self.inside in
    omega (arith, length-marks_of s.size s.words.items, ap length c.self.view_is, c.self.invariant.count, s.words.ok.0)

pub returns-clause-value : goal.returns-clause-value
returns-clause-value c =
    let fits : c.index.result.now < 2 ^ 64 = omega arith in
    word_of-read _ _ _ _ _ c.self.invariant c.self.view_is c.requires c.index.ensures fits

pub returns-clause-bits : goal.returns-clause-bits
returns-clause-bits c i h =
    let fits : c.index.result.now < 2 ^ 64 = omega arith in
    ap (λ n. bit_at n i == 1) (word_of-read _ _ _ _ _ c.self.invariant c.self.view_is c.requires c.index.ensures fits)
    ∙ bit_at-word_of c.args.self.now c.args.w i h
