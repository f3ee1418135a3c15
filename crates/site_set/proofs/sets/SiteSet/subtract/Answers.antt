use Rattle.std.proofs.Common.{ap, sym, ◌∙◌, length}
use Rattle.site_set.proofs.MergeLemmas.{same_words, IsSubtracted-from_slices}
use Rattle.site_set.proofs.sets.SiteSet.subtract.Goals as goal

pub and_not_words-requires : goal.and_not_words-requires
and_not_words-requires c =
    ap length c.as_mut_slice.ensures.value ∙ same_words _ _ _ _ _ _ c.self.view_is c.other.view_is c.requires c.self.invariant c.other.invariant
    ∙ ap length (sym c.as_slice.ensures.value)

pub invariant_of-self : goal.invariant_of-self
invariant_of-self c =
    (IsSubtracted-from_slices c.self.inside.words _ _ _ _ _ _ _ _ c.self.invariant c.other.invariant c.self.view_is c.other.view_is c.requires
    c.as_mut_slice.ensures.value c.as_slice.ensures.value c.and_not_words.ensures.fits c.and_not_words.ensures.merged).packed

pub returns-clause-members : goal.returns-clause-members
returns-clause-members c =
    (IsSubtracted-from_slices c.self.inside.words _ _ _ _ _ _ _ _ c.self.invariant c.other.invariant c.self.view_is c.other.view_is c.requires
    c.as_mut_slice.ensures.value c.as_slice.ensures.value c.and_not_words.ensures.fits c.and_not_words.ensures.merged).marks
