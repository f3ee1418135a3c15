use Rattle.std.proofs.Common.{◌∙◌, sym}
use Rattle.site_set.proofs.MarksLemmas.{IsEmpty-from_is_empty, is_empty-from_IsEmpty}
use Rattle.site_set.proofs.WordLemmas.{is_empty-slice}
use Rattle.site_set.proofs.sets.SiteSet.is_empty.Goals as goal

pub returns-clause-value : goal.returns-clause-value
returns-clause-value c =
    c.are_zero.ensures.zero ∙ is_empty-slice _ _ _ _ c.self.invariant c.self.view_is c.as_slice.ensures.value c.are_zero.ensures.fits

pub returns-clause-members : goal.returns-clause-members
returns-clause-members c =
    let value = c.are_zero.ensures.zero ∙ is_empty-slice _ _ _ _ c.self.invariant c.self.view_is c.as_slice.ensures.value c.are_zero.ensures.fits in
    (λ yes. IsEmpty-from_is_empty _ (sym value ∙ yes), λ none. value ∙ is_empty-from_IsEmpty _ none)
