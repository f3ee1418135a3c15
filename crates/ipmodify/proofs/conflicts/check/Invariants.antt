use Rattle.ipmodify.proofs.ConflictLemmas.{IsSoFar}
use Rattle.ipmodify.proofs.conflicts.check.Given as goal

abbrev pub invariant-loop-holder : goal.invariant-loop-holder
invariant-loop-holder l = IsSoFar l.on l.holders l.me.0 l.holder-index l.first
