use Rattle.std.proofs.Common.{ap, sym, ◌∙◌, length}
use Rattle.site_set.proofs.MergeLemmas.{same_words, IsUnited-from_slices}
use Rattle.site_set.proofs.sets.SiteSet.unite.Goals as goal

pub or_words-requires : goal.or_words-requires
or_words-requires c =
    ap length c.as_mut_slice.ensures.value ∙ same_words _ _ _ _ _ _ c.self.view_is c.other.view_is c.requires c.self.invariant c.other.invariant
    ∙ ap length (sym c.as_slice.ensures.value)

pub invariant_of-self : goal.invariant_of-self
invariant_of-self c =
    (IsUnited-from_slices c.self.inside.words _ _ _ _ _ _ _ _ c.self.invariant c.other.invariant c.self.view_is c.other.view_is c.requires
    c.as_mut_slice.ensures.value c.as_slice.ensures.value c.or_words.ensures.fits c.or_words.ensures.merged).packed

pub returns-clause-members : goal.returns-clause-members
returns-clause-members c =
    (IsUnited-from_slices c.self.inside.words _ _ _ _ _ _ _ _ c.self.invariant c.other.invariant c.self.view_is c.other.view_is c.requires
    c.as_mut_slice.ensures.value c.as_slice.ensures.value c.or_words.ensures.fits c.or_words.ensures.merged).marks
