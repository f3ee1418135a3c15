use Rattle.std.proofs.Common.{ap, ◌∙◌, rules}
use Rattle.site_set.specs.Packed.{marks_of}
use Rattle.site_set.proofs.PackedLemmas.{length-marks_of, marks_of-zeros}
use Rattle.site_set.proofs.sets.SiteSet.empty.Goals as goal

pub returns-clause-members : goal.returns-clause-members
returns-clause-members c = ap (marks_of c.args.size) (c.in_ok-words.ensures.items_if_clones_equal (search rules)) ∙ marks_of-zeros c.args.size _

pub returns-clause-size : goal.returns-clause-size
returns-clause-size c = length-marks_of c.args.size _
