use Rattle.std.proofs.Common.{◌≡◌, ◌+◌, length}
use Rattle.ft_hist.specs.Plain.{ahead}
use Rattle.history_check.proofs.acts.Acts.skip.Given as goal

-- from here on it goes to the same act, and no act is lost
abbrev pub invariant-loop-act : goal.invariant-loop-act
invariant-loop-act l = record {
  ahead' : ahead l.returned l.self.rest.now l.self.contexts.items l.self.gone ≡ ahead l.returned l.initial.self.rest.now l.initial.self.contexts.items l.initial.self.gone;
  room : l.self.gone + length l.self.rest.now ≡ l.initial.self.gone + length l.initial.self.rest.now;
}

abbrev pub decreases-loop-act : goal.decreases-loop-act
decreases-loop-act l = length l.self.rest.now
