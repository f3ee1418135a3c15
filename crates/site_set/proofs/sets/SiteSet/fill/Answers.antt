use Rattle.std.proofs.Common.{ap, length, ◌∙◌}
use Rattle.site_set.proofs.FillLemmas.{IsFull-from_slice}
use Rattle.site_set.proofs.sets.SiteSet.fill.Goals as goal

pub fill_words-requires : goal.fill_words-requires
fill_words-requires c = ap length c.as_mut_slice.ensures.value ∙ c.self.invariant.count

pub invariant_of-self : goal.invariant_of-self
invariant_of-self c =
    (IsFull-from_slice c.self.inside.words _ _ _ _ c.self.invariant c.self.view_is c.as_mut_slice.ensures.value c.fill_words.ensures.size c.fill_words.ensures.bits).packed

pub returns-clause-members : goal.returns-clause-members
returns-clause-members c =
    (IsFull-from_slice c.self.inside.words _ _ _ _ c.self.invariant c.self.view_is c.as_mut_slice.ensures.value c.fill_words.ensures.size c.fill_words.ensures.bits).marks
