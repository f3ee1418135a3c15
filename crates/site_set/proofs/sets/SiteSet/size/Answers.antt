use Rattle.std.proofs.Common.{sym, ap, length, ◌∙◌}
use Rattle.site_set.proofs.PackedLemmas.{length-marks_of}
use Rattle.site_set.proofs.sets.SiteSet.size.Goals as goal

pub returns : goal.returns
returns c = sym (length-marks_of c.self.inside.size c.self.inside.words.items) ∙ ap length c.self.view_is
