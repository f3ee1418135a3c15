use Rattle.std.proofs.Common.{ap, sym, ◌∙◌, length}
use Rattle.site_set.specs.Packed.{marks_of}
use Rattle.ft_base.specs.Marks.{empty}
use Rattle.site_set.proofs.PackedLemmas.{length-marks_of, marks_of-zeros}
use Rattle.site_set.proofs.sets.SiteSet.clear.Goals as goal

pub returns-clause-members : goal.returns-clause-members
returns-clause-members c =
    let s = c.self.inside in
    ap (marks_of s.size) (c.fill.ensures.items (λ _ e. e)) ∙ marks_of-zeros s.size _ ∙ ap empty (sym (length-marks_of s.size s.words.items) ∙ ap length c.self.view_is)
