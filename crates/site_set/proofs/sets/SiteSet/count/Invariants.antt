use Rattle.std.proofs.Common.{◌≡◌}
use Rattle.site_set.proofs.WordLemmas.{count_below}
use Rattle.site_set.proofs.sets.SiteSet.count.Given as goal

abbrev pub invariant-loop-word : goal.invariant-loop-word
invariant-loop-word l = l.count ≡ count_below l.self l.word-index
